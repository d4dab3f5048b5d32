-- Two sets (CR 7): which ids a result has, said once for all operations; when a call over two sets refuses, and what it answers and writes otherwise. Each
-- answer by its case, both ways; no two cases hold at once, so that they say the order of the refusals, too: 14, 17, 16, 13. No walk over the sets is named
-- here.
use Rattle.std.specs.Prelude.{ℕ, ◌≤◌, ◌≡◌, Bool, true, false, List, [], ◌++◌, length, take, drop, Result, Ok, Err}
use Rattle.misc.specs.declared.refusal.Refusal.{Refusal}
use Rattle.misc.specs.declared.refusal.WriteError.{WriteError}
use Rattle.misc.specs.Refusal.{number, full, error_number, error_needed}
use Rattle.packets.specs.Key.{Key}
use Rattle.previous_gtids_event.specs.Entry.{Entry}
use Rattle.previous_gtids_event.specs.Rewrite.{body_bytes}
use Rattle.gtid_sets.specs.Set.{has, SetForm}
use Rattle.gtid_sets.specs.TakeIn.{lawful, union, taken_set}
use Rattle.gtid_sets.specs.Limits.{fine, breaks, limits, EntryOver}
use Rattle.gtid_sets.specs.Lent.{SetLaid}
use Rattle.gtid_sets.specs.Combine as ops
use Rattle.two_sets.specs.Answers.{combine_answers, combine_leaves, within_answers}
use Rattle.resume_set_laws.specs.History.{member}
use Rattle.promises.specs.PlainFaults.{WriteFault}
use Rattle.promises.specs.SetFaults.{SetFault}
use Rattle.promises.specs.Exact.{Exactly, IsRefusal, IsError}

-- u is the set of the ids that an operation keeps of s and t, by whether they are in s and whether they are in t
pub record Keeps (op : Bool → Bool → Bool) (s t u : List Entry) : Type 0 where
  pub formed : SetForm u
  pub members : (k : Key) (n : ℕ) → has u k n ≡ op (has s k n) (has t k n)

-- every id of t is one of s
abbrev pub Contains : List Entry → List Entry → Type 0
Contains s t = (k : Key) (n : ℕ) → has t k n ≡ true → has s k n ≡ true

-- an id of t that s lacks
pub record Lacks (s t : List Entry) : Type 0 where
  pub key : Key
  pub gno : ℕ
  pub there : has t key gno ≡ true
  pub lacked : has s key gno ≡ false

-- ---- refusals

-- which of the two was judged can't be told by the number
pub data PairFault (first second : List ℕ) : ℕ → Type 0 where
  -- 14: the first bytes are no set
  bad_first : {n : ℕ} → SetFault first n → PairFault first second n
  -- 14: they are one, and the second bytes are none
  bad_second : {s : List Entry} {n : ℕ} → SetLaid first s → SetFault second n → PairFault first second n

pub data CombineFault (op : Bool → Bool → Bool) (first second : List ℕ) : ℕ → Type 0 where
  bad_set : {n : ℕ} → PairFault first second n → CombineFault op first second n
  -- 17: in the set of the ids that are kept an entry has more than 1,024 intervals, whatever the two sets have
  crowded_entry : {s t u : List Entry} → SetLaid first s → SetLaid second t → Keeps op s t u → EntryOver 1024 u → CombineFault op first second 17
  -- 16: none has, but that set breaks the limits of all together
  over_limits : {s t u : List Entry} → SetLaid first s → SetLaid second t → Keeps op s t u → limits u ≡ breaks full → CombineFault op first second 16

-- ---- a call that writes a result

-- what it writes
pub data ResultAs (op : Bool → Bool → Bool) (first second : List ℕ) : List ℕ → Type 0 where
  kept : {s t u : List Entry} → SetLaid first s → SetLaid second t → Keeps op s t u → limits u ≡ fine → ResultAs op first second (body_bytes u)

-- every answer, and what the output holds then: as it was after a refusal (13 among them), else the result at its front
pub data CombineAnswer (op : Bool → Bool → Bool) (first second out : List ℕ) : Result ℕ WriteError → List ℕ → Type 0 where
  refused : {x : WriteError} → WriteFault (CombineFault op first second) (ResultAs op first second) (length out) (error_number x) (error_needed x)
      → CombineAnswer op first second out (Err x) out
  written : {bs : List ℕ} → ResultAs op first second bs → length bs ≤ length out
      → CombineAnswer op first second out (Ok (length bs)) (bs ++ drop (length bs) out)

-- such a call: lent two sets and an output, what it answers and what it leaves in the output
pub record Combiner : Type 0 where
  pub answers : List ℕ → List ℕ → List ℕ → Result ℕ WriteError
  pub leaves : List ℕ → List ℕ → List ℕ → List ℕ

abbrev pub CombinesExactly : (Bool → Bool → Bool) → Combiner → Type 0
CombinesExactly op f = (first second out : List ℕ) (w : Result ℕ WriteError) (l : List ℕ)
    → Exactly ((f.answers first second out ≡ w) × (f.leaves first second out ≡ l)) (CombineAnswer op first second out w l)

-- what `either`, `both` and `without` promise, and the archive's calls, by their operation
abbrev pub our_calls : (Bool → Bool → Bool) → Combiner
our_calls op = record { answers = combine_answers op; leaves = combine_leaves op }

-- ---- a call that says yes or no

pub data WithinAnswer (first second : List ℕ) : Result Bool Refusal → Type 0 where
  refused : {r : Refusal} → PairFault first second (number r) → WithinAnswer first second (Err r)
  -- yes: every id of the first set is in the second
  inside : {s t : List Entry} → SetLaid first s → SetLaid second t → Contains t s → WithinAnswer first second (Ok true)
  -- no: there is one that isn't
  missing : {s t : List Entry} → SetLaid first s → SetLaid second t → Lacks t s → WithinAnswer first second (Ok false)

abbrev pub ComparesExactly : (List ℕ → List ℕ → Result Bool Refusal) → Type 0
ComparesExactly f = (first second : List ℕ) (r : Result Bool Refusal) → Exactly (f first second ≡ r) (WithinAnswer first second r)

-- ---- a result that is too great

-- two sets within the limits (else it is 14), whose result is refused with n
abbrev pub Exceeding : (Bool → Bool → Bool) → ℕ → Type 0
Exceeding op n = (first : List ℕ) × (second : List ℕ) × CombineFault op first second n

-- ---- together

pub record TwoSets : Type 0 where
  -- of any operation that keeps no id which is in neither set, and so of `either`, `both` and `without`, and of the archive's calls, which promise the same
  pub results : (op : Bool → Bool → Bool) → op false false ≡ false → CombinesExactly op (our_calls op)
  pub within : ComparesExactly within_answers
  -- whatever is wrong with two sets or their result has an answer: a refusal's number, an error's with its length
  pub faults : (op : Bool → Bool → Bool) (first second : List ℕ) (room n len : ℕ)
      → WriteFault (CombineFault op first second) (ResultAs op first second) room n len → IsError n len
  pub pair_faults : (first second : List ℕ) (n : ℕ) → PairFault first second n → IsRefusal n
  -- a result that was written is a set, and these are its members
  pub members : (op : Bool → Bool → Bool) (first second out : List ℕ) → op false false ≡ false → (len : ℕ) → combine_answers op first second out ≡ Ok len
      → let result : List ℕ = take len (combine_leaves op first second out) in
      ((s : List Entry) × SetLaid result s) × ((k : Key) (n : ℕ) → member result k n ≡ op (member first k n) (member second k n))
  -- yes exactly if the first without the second is the empty set
  pub empty : (first second : List ℕ)
      → Exactly (WithinAnswer first second (Ok true)) (ResultAs ops.without first second (body_bytes []))
  -- one set lent twice; and it is within itself, so that without itself it is the empty set
  pub twice : (set : List ℕ) (s : List Entry) → SetLaid set s → ResultAs ops.either set set set × ResultAs ops.both set set set
  -- every result can pass either limit
  pub crowded : Exceeding ops.either 17 × Exceeding ops.both 17 × Exceeding ops.without 17
  pub full : Exceeding ops.either 16 × Exceeding ops.both 16 × Exceeding ops.without 16
  -- a body's ids joined to a set: the ids in either, of the set and of what taking in gives
  pub joined : (s es : List Entry) → SetForm s → lawful es ≡ true → Keeps ops.either s (taken_set es) (union es s)
