-- The statements of `specs/TwoSets.antt`.
use Prim.Native.Nat.{ℕ}
use mathlib.Core.Path.{◌≡◌, refl, sym, ap, ◌∙◌}
use mathlib.Core.Bool.{Bool, true, false}
use mathlib.Core.List.{List, [], ◌∷◌}
use native.Mathlib.Omega.{arith}
use lib.Dec.{leb}
use lib.ListN.{length, take, drop}
use lib.Seq.{take_at}
use borrow.Author.Tests.{leb-true, leb-false, le-leb, lt-leb, lt-ltb}
use Rattle.misc.specs.declared.refusal.Refusal.{Refusal}
use Rattle.misc.specs.declared.refusal.WriteError.{WriteError}
use Rattle.misc.specs.declared.refusal.WriteError.TheVariants.{Refused, NoRoom}
use Rattle.misc.specs.Refusal.{number, not_a_set, full, crowded, error_number, error_needed}
use Rattle.misc.specs.Output.{Output, refused, bytes, output_of, answer_of}
use Rattle.packets.specs.Gno.{gno_top, Interval, interval}
use Rattle.packets.specs.Key.{Key}
use Rattle.packets.proofs.Tests.{split, clash}
use Rattle.packets.proofs.Keys.{same_self}
use Rattle.previous_gtids_event.specs.Entry.{Entry, entry}
use Rattle.previous_gtids_event.specs.Rewrite.{body_bytes}
use Rattle.gtid_sets.specs.Set.{has, SetForm, in_set_form}
use Rattle.gtid_sets.specs.TakeIn.{taken_set}
use Rattle.gtid_sets.specs.Limits.{max_entries, max_intervals, max_of_entry, Judged, fine, breaks, judged, limits}
use Rattle.gtid_sets.specs.Lent.{Lent, form, unfit, lent_set, GoodKeys, SetLaid}
use Rattle.gtid_sets.specs.Combine.{either, both, without, combined, is_empty, subset}
use Rattle.gtid_sets.proofs.FormLaws.{lawful-holds}
use Rattle.gtid_sets.proofs.TakeInLaws.{form-take_in}
use Rattle.gtid_sets.proofs.LimitLaws.{limits-from}
use Rattle.gtid_sets.proofs.LentLaws.{lent_is, is-lent, lent_back}
use Rattle.gtid_sets.proofs.CombineLaws.{combined-good, combined-form, combined-has, is-combined, not_first, in-second, subset-says, subset-from}
use Rattle.gtid_sets.proofs.CombineLaws.{join-is-either}
use Rattle.set_join.specs.Answers.{saved_if, saved}
use Rattle.two_sets.specs.Answers.{combined_output, combine_answers, combine_leaves, within_read, within_answers}
use Rattle.resume_set_laws.specs.History.{member}
use Rattle.std.specs.Prelude.{Result, Ok, Err}
use Rattle.promises.specs.PlainFaults.{ShortFault, WriteFault}
use Rattle.promises.specs.Exact.{Exactly, IsRefusal}
use Rattle.promises.specs.TwoSets.{Keeps, Lacks, PairFault, CombineFault, ResultAs, CombineAnswer, CombinesExactly, our_calls, WithinAnswer}
use Rattle.promises.specs.TwoSets.{ComparesExactly, Exceeding, TwoSets}
use Rattle.promises.proofs.Numbers.{same_number, same_error, write-error}
use Rattle.promises.proofs.LimitsExact.{entry_limit, limits-refuse}
use Rattle.promises.proofs.AtLimits.{spread, uuids, uuids-laid, fours, one_and_four, threes, other_threes}
use Rattle.promises.proofs.SetsExact.{apart, unfit-fault, fault-unfit}

-- ---- a pair of sets

module _ (first second : List ℕ) where
  -- a fault of the pair, and what it comes to
  pub pair-unfit : {P : Type 0} (n : ℕ) → PairFault first second n → (n ≡ 14 → lent_set first ≡ unfit → P)
      → (n ≡ 14 → (s : List Entry) → lent_set first ≡ form s → lent_set second ≡ unfit → P) → P
  pair-unfit n (PairFault.bad_first fault) one two = let (this, lent) = fault-unfit first n fault in one this lent
  pair-unfit n (PairFault.bad_second {s = s} laid fault) one two = let (this, lent) = fault-unfit second n fault in two this s (is-lent first s laid) lent

  -- its number
  pub pair-number : (n : ℕ) → PairFault first second n → IsRefusal n
  pair-number n fault = pair-unfit n fault (λ this p. (not_a_set, sym this)) (λ this s p q. (not_a_set, sym this))

  combine-number : (op : Bool → Bool → Bool) (n : ℕ) → CombineFault op first second n → IsRefusal n
  combine-number op n (CombineFault.bad_set fault) = pair-number n fault
  combine-number op n (CombineFault.crowded_entry i j k over) = (crowded, refl)
  combine-number op n (CombineFault.over_limits i j k over) = (full, refl)

-- ---- results

module _ (op : Bool → Bool → Bool) (none : op false false ≡ false) where
  keeps-combined : (s t : List Entry) → SetForm s → SetForm t → Keeps op s t (combined op s t)
  keeps-combined s t f g = record { formed = combined-form op none s t f g; members = λ k n. combined-has op none s t k n f g }

  -- there is no other
  keeps-one : (s t u : List Entry) → SetForm s → SetForm t → Keeps op s t u → u ≡ combined op s t
  keeps-one s t u f g k = is-combined op none s t u f g k.formed k.members

  module _ (first second out : List ℕ) where
    abbrev Ours : Result ℕ WriteError → List ℕ → Type 0
    Ours w l = (combine_answers op first second out ≡ w) × (combine_leaves op first second out ≡ l)

    abbrev Found : Output → Type 0
    Found o = CombineAnswer op first second out (answer_of out o) (output_of out o)

    -- ---- an answer has its case

    refused_as : (r : Refusal) → CombineFault op first second (number r) → Found (refused r)
    unfolding answer_of output_of
    refused_as r fault = CombineAnswer.refused (WriteFault.itself fault)

    bytes-as : (bs : List ℕ) → ResultAs op first second bs → Found (bytes bs)
    unfolding answer_of output_of
    bytes-as bs is = split (leb (length bs) (length out))
        (λ fits. rw fits (CombineAnswer.written is (leb-true _ _ fits)))
        (λ over. rw over (CombineAnswer.refused (WriteFault.no_room is (ShortFault.short (leb-false _ _ over)))))

    saved-as : (s t : List Entry) → SetLaid first s → SetLaid second t → Found (saved (combined op s t))
    saved-as s t i j = go (limits (combined op s t)) refl
      where
        is : Keeps op s t (combined op s t)
        is = keeps-combined s t i.formed j.formed

        go : (x : Judged) → limits (combined op s t) ≡ x → Found (saved_if x (body_bytes (combined op s t)))
        go fine told = bytes-as (body_bytes (combined op s t)) (ResultAs.kept i j is told)
        go (breaks r) told = limits-refuse (combined op s t) told
            (λ over this. rw this (refused_as crowded (CombineFault.crowded_entry i j is over)))
            (λ over this. rw this (refused_as full (CombineFault.over_limits i j is over)))

    found : (x y : Lent) → lent_set first ≡ x → lent_set second ≡ y → Found (combined_output op x y)
    found unfit y p q = refused_as not_a_set (CombineFault.bad_set (PairFault.bad_first (unfit-fault first p)))
    found (form s) unfit p q = refused_as not_a_set (CombineFault.bad_set (PairFault.bad_second (lent_is first s p) (unfit-fault second q)))
    found (form s) (form t) p q = saved-as s t (lent_is first s p) (lent_is second t q)

    -- ---- and a case forces its answer

    unfit-told : (n : ℕ) → PairFault first second n → (n ≡ 14) × (combined_output op (lent_set first) (lent_set second) ≡ refused not_a_set)
    unfit-told n fault = pair-unfit first second n fault (λ this p. (this, rw p)) (λ this s p q. (this, rw (p, q)))

    fault-told : (n : ℕ) → CombineFault op first second n → (r : Refusal) × (combined_output op (lent_set first) (lent_set second) ≡ refused r) × (number r ≡ n)
    fault-told n (CombineFault.bad_set fault) = let (this, e) = unfit-told n fault in (not_a_set, e, sym this)
    fault-told n (CombineFault.crowded_entry {s = s} {t = t} {u = u} i j k over) =
        let same_set = keeps-one s t u i.formed j.formed k in
        let judged : limits (combined op s t) ≡ breaks crowded = rw same_set at ((entry_limit u).1 over) in
        (crowded, rw (is-lent first s i, is-lent second t j, judged), refl)
    fault-told n (CombineFault.over_limits {s = s} {t = t} {u = u} i j k over) =
        let same_set = keeps-one s t u i.formed j.formed k in
        let judged : limits (combined op s t) ≡ breaks full = rw same_set at over in
        (full, rw (is-lent first s i, is-lent second t j, judged), refl)

    kept-told : (bs : List ℕ) → ResultAs op first second bs → combined_output op (lent_set first) (lent_set second) ≡ bytes bs
    kept-told bs (ResultAs.kept {s = s} {t = t} {u = u} i j k within) =
        let same_set = keeps-one s t u i.formed j.formed k in
        let judged : limits (combined op s t) ≡ fine = rw same_set at within in
        rw (is-lent first s i, is-lent second t j, judged, same_set)

    refused-told : (x : WriteError) {n len : ℕ} → error_number x ≡ n → error_needed x ≡ len
        → WriteFault (CombineFault op first second) (ResultAs op first second) (length out) n len → Ours (Err x) out
    unfolding answer_of output_of
    refused-told x number_is needed_is (WriteFault.itself {n = n} fault) =
        let (r, e, this) = fault-told n fault in
        rw (same_error x (Refused r) (number_is ∙ sym this) needed_is) (ap (answer_of out) e, ap (output_of out) e)
    refused-told x number_is needed_is (WriteFault.no_room {bs = bs} is (ShortFault.short over)) =
        rw (same_error x (NoRoom (length bs)) number_is needed_is, kept-told bs is, lt-leb _ _ over) (refl, refl)

    forced : (w : Result ℕ WriteError) (l : List ℕ) → CombineAnswer op first second out w l → Ours w l
    unfolding answer_of output_of
    forced w l (CombineAnswer.refused {x = x} fault) = refused-told x refl refl fault
    forced w l (CombineAnswer.written {bs = bs} is room) = rw (kept-told bs is, le-leb _ _ room) (refl, refl)

  pub results-exactly : CombinesExactly op (our_calls op)
  results-exactly first second out w l = (
    λ (is, left). rw (is, left) at (found first second out (lent_set first) (lent_set second) refl refl),
    forced first second out w l,
  )

-- ---- yes or no

-- a set that isn't empty has a member: the first number of its first interval
first_member : (u : List Entry) → SetForm u → is_empty u ≡ false → (k : Key) × ((n : ℕ) × (has u k n ≡ true))
first_member [] f h = clash refl h
first_member (entry k [] ∷ u) f h = absurd f.0
first_member (entry k (interval a b ∷ is) ∷ u) f h =
    (k, (a, rw (same_self k, le-leb a a (omega arith), lt-ltb a b f.1.1)))

in-first : (x y : Bool) → without x y ≡ true → (x ≡ true) × (y ≡ false)
in-first true true h = clash h refl
in-first true false h = (refl, refl)
in-first false y h = clash h refl

module _ (s t : List Entry) (f : SetForm s) (g : SetForm t) where
  -- a member of what is left is an id that is missing, and the other way round
  pub lacking : subset s t ≡ false → Lacks t s
  lacking not-all =
      let (k, (n, there)) = first_member (combined without s t) (combined-form without refl s t f g) not-all in
      let (here, gone) = in-first (has s k n) (has t k n) (sym (combined-has without refl s t k n f g) ∙ there) in
      record { key = k; gno = n; there = here; lacked = gone }

  pub not_within : Lacks t s → subset s t ≡ false
  not_within l = split (subset s t) (λ all. clash (subset-says s t f g all l.key l.gno l.there) l.lacked) (λ h. h)

module _ (first second : List ℕ) where
  told-as : (s t : List Entry) → SetLaid first s → SetLaid second t → WithinAnswer first second (Ok (subset s t))
  told-as s t i j = split (subset s t)
      (λ all. rw all (WithinAnswer.inside i j (subset-says s t i.formed j.formed all)))
      (λ not-all. rw not-all (WithinAnswer.missing i j (lacking s t i.formed j.formed not-all)))

  within-found : (x y : Lent) → lent_set first ≡ x → lent_set second ≡ y → WithinAnswer first second (within_read x y)
  within-found unfit y p q = WithinAnswer.refused (PairFault.bad_first (unfit-fault first p))
  within-found (form s) unfit p q = WithinAnswer.refused (PairFault.bad_second (lent_is first s p) (unfit-fault second q))
  within-found (form s) (form t) p q = told-as s t (lent_is first s p) (lent_is second t q)

  within-forced : (r : Result Bool Refusal) → WithinAnswer first second r → within_answers first second ≡ r
  within-forced r (WithinAnswer.refused {r = x} fault) = pair-unfit first second (number x) fault
      (λ this p. rw (p, same_number x not_a_set this))
      (λ this s p q. rw (p, q, same_number x not_a_set this))
  within-forced r (WithinAnswer.inside {s = s} {t = t} i j all) = rw (is-lent first s i, is-lent second t j, subset-from s t i.formed j.formed all)
  within-forced r (WithinAnswer.missing {s = s} {t = t} i j lacks) = rw (is-lent first s i, is-lent second t j, not_within s t i.formed j.formed lacks)

pub compares-exactly : ComparesExactly within_answers
compares-exactly first second r = (
  λ is. rw is at (within-found first second (lent_set first) (lent_set second) refl refl),
  within-forced first second r,
)

-- ---- what follows

-- a result that was written
module _ (op : Bool → Bool → Bool) (none : op false false ≡ false) (first second out : List ℕ) (len : ℕ) where
  abbrev result : List ℕ
  result = take len (combine_leaves op first second out)

  has_result : {bs : List ℕ} → ResultAs op first second bs → result ≡ bs
      → ((s : List Entry) × SetLaid result s) × ((k : Key) (n : ℕ) → member result k n ≡ op (member first k n) (member second k n))
  has_result {bs} (ResultAs.kept {s = s} {t = t} {u = u} i j k within) is =
      let same_set = keeps-one op none s t u i.formed j.formed k in
      let good : GoodKeys u = rw same_set (combined-good op s t i.keyed j.keyed) in
      let laid : SetLaid result u = record { written = is; formed = k.formed; keyed = good; limited = within } in
      ((u, laid), λ key n. rw (is-lent result u laid, is-lent first s i, is-lent second t j) (k.members key n))

  -- bytes that are written are those of the result
  bytes-kept : (bs : List ℕ) → combined_output op (lent_set first) (lent_set second) ≡ bytes bs → ResultAs op first second bs
  bytes-kept bs = go (lent_set first) (lent_set second) refl refl
    where
      judged : (s t : List Entry) → SetLaid first s → SetLaid second t → (x : Judged) → limits (combined op s t) ≡ x
          → saved_if x (body_bytes (combined op s t)) ≡ bytes bs → ResultAs op first second bs
      judged s t i j fine told e =
          let this : body_bytes (combined op s t) ≡ bs = cc in
          rw (← this) (ResultAs.kept i j (keeps-combined op none s t i.formed j.formed) told)
      judged s t i j (breaks r) told e = apart cc

      go : (x y : Lent) → lent_set first ≡ x → lent_set second ≡ y → combined_output op x y ≡ bytes bs → ResultAs op first second bs
      go unfit y p q e = apart cc
      go (form s) unfit p q e = apart cc
      go (form s) (form t) p q e = judged s t (lent_is first s p) (lent_is second t q) (limits (combined op s t)) refl e

  result-of : combine_answers op first second out ≡ Ok len
      → ((s : List Entry) × SetLaid result s) × ((k : Key) (n : ℕ) → member result k n ≡ op (member first k n) (member second k n))
  unfolding answer_of output_of
  result-of told = go (combined_output op (lent_set first) (lent_set second)) refl
    where
      go : (o : Output) → combined_output op (lent_set first) (lent_set second) ≡ o
          → ((s : List Entry) × SetLaid result s) × ((k : Key) (n : ℕ) → member result k n ≡ op (member first k n) (member second k n))
      go (refused r) e = apart (let no : Err (Refused r) ≡ Ok len = rw e at told in cc)
      go (bytes bs) e = split (leb (length bs) (length out))
          (λ fits.
          let yes : Ok (length bs) ≡ Ok len = rw (e, fits) at told in
          let all : length bs ≡ len = cc in
          has_result (bytes-kept bs e) (rw (e, fits) (take_at bs (drop (length bs) out) len all)))
          (λ over. apart (let no : Err (NoRoom (length bs)) ≡ Ok len = rw (e, over) at told in cc))

-- the empty set
pub none-fine : limits [] ≡ fine
none-fine = limits-from [] refl (omega arith) (omega arith)

only-empty : (u : List Entry) → SetForm u → GoodKeys u → limits u ≡ fine → body_bytes u ≡ body_bytes [] → u ≡ []
only-empty u f g h e =
    let this : lent_set (body_bytes u) ≡ form u = lent_back u f g h in
    let that : lent_set (body_bytes u) ≡ form [] = ap lent_set e ∙ lent_back [] tt tt none-fine in
    let alike : form u ≡ form [] = sym this ∙ that in
    cc

module _ (first second : List ℕ) where
  empty-kept : (r : Result Bool Refusal) → WithinAnswer first second r → r ≡ Ok true → ResultAs without first second (body_bytes [])
  empty-kept r (WithinAnswer.refused fault) e = apart cc
  empty-kept r (WithinAnswer.inside {s = s} {t = t} i j all) e =
      ResultAs.kept {u = []} i j (record { formed = tt; members = λ k n. sym (in-second (has s k n) (has t k n) (all k n)) }) none-fine
  empty-kept r (WithinAnswer.missing i j lacks) e = apart cc

  kept-empty : (bs : List ℕ) → ResultAs without first second bs → bs ≡ body_bytes [] → WithinAnswer first second (Ok true)
  kept-empty bs (ResultAs.kept {s = s} {t = t} {u = u} i j k within) e =
      let same_set = keeps-one without refl s t u i.formed j.formed k in
      let none : u ≡ [] = only-empty u k.formed (rw same_set (combined-good without s t i.keyed j.keyed)) within e in
      WithinAnswer.inside i j (λ key n here. not_first (has s key n) (has t key n) here
      (sym (ap (λ (x : List Entry). has x key n) (sym none) ∙ k.members key n)))

  empty-exactly : Exactly (WithinAnswer first second (Ok true)) (ResultAs without first second (body_bytes []))
  empty-exactly = (λ is. empty-kept _ is refl, λ is. kept-empty (body_bytes []) is refl)

-- one set twice
module _ (set : List ℕ) (s : List Entry) (i : SetLaid set s) where
  whole : (op : Bool → Bool → Bool) → ((x : Bool) → x ≡ op x x) → ResultAs op set set set
  whole op itself =
      let is : ResultAs op set set (body_bytes s) = ResultAs.kept i i (record { formed = i.formed; members = λ k n. itself (has s k n) }) i.limited in
      rw (← i.written) at is

  either-itself : (x : Bool) → x ≡ either x x
  either-itself true = refl
  either-itself false = refl

  both-itself : (x : Bool) → x ≡ both x x
  both-itself true = refl
  both-itself false = refl

  with_itself : ResultAs either set set set × ResultAs both set set set
  with_itself = (whole either either-itself, whole both both-itself)

-- ---- results that are too great

module _ (op : Bool → Bool → Bool) (none : op false false ≡ false) (iss jss : List (List Interval)) where
  too-great : {r : Refusal} → in_set_form (uuids 0 iss) ≡ true → limits (uuids 0 iss) ≡ fine → in_set_form (uuids 0 jss) ≡ true → limits (uuids 0 jss) ≡ fine
      → limits (combined op (uuids 0 iss) (uuids 0 jss)) ≡ breaks r → Exceeding op (number r)
  too-great f l g m great =
      let i = uuids-laid iss f l in
      let j = uuids-laid jss g m in
      let is = keeps-combined op none (uuids 0 iss) (uuids 0 jss) i.formed j.formed in (
        body_bytes (uuids 0 iss),
        body_bytes (uuids 0 jss),
        limits-refuse (combined op (uuids 0 iss) (uuids 0 jss)) great
            (λ over this. rw this (CombineFault.crowded_entry i j is over))
            (λ over this. rw this (CombineFault.over_limits i j is over)),
      )

crowds-entry : Exceeding either 17 × Exceeding both 17 × Exceeding without 17
unfolding spread gno_top max_entries max_intervals max_of_entry judged limits
crowds-entry = (
  too-great either refl (fours 1024 ∷ []) (one_and_four ∷ []) {r = crowded} refl refl refl refl refl,
  too-great both refl (threes 600 ∷ []) (other_threes 600 ∷ []) {r = crowded} refl refl refl refl refl,
  too-great without refl (fours 1024 ∷ []) (one_and_four ∷ []) {r = crowded} refl refl refl refl refl,
)

fills-set : Exceeding either 16 × Exceeding both 16 × Exceeding without 16
unfolding spread gno_top max_entries max_intervals max_of_entry judged limits
fills-set = (
  too-great either refl (fours 512 ∷ fours 1024 ∷ fours 1024 ∷ []) (one_and_four ∷ []) {r = full} refl refl refl refl refl,
  too-great both refl (threes 500 ∷ threes 500 ∷ threes 500 ∷ []) (other_threes 500 ∷ other_threes 500 ∷ other_threes 500 ∷ []) {r = full}
      refl refl refl refl refl,
  too-great without refl (fours 512 ∷ fours 1024 ∷ fours 1024 ∷ []) (one_and_four ∷ []) {r = full} refl refl refl refl refl,
)

pub two-sets : TwoSets
two-sets = record {
  results = results-exactly;
  within = compares-exactly;
  faults = λ op first second room n len fault. write-error (combine-number first second op) fault;
  pair_faults = pair-number;
  members = λ op first second out none len told. result-of op none first second out len told;
  empty = empty-exactly;
  twice = with_itself;
  crowded = crowds-entry;
  full = fills-set;
  joined = λ s es f good.
      let l = lawful-holds es good in
      rw (join-is-either es s l f) (keeps-combined either refl s (taken_set es) f (form-take_in es l));
}
