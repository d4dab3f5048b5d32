-- Month's end in exact numbers (CR 13): that totals count members; what a report over sets answers, sums up and says, of any way of reporting; and the
-- archive's calls. What offers add to a total is `CountsTaken` of `History` of resume_set_laws. (It speaks of offers. A body's ids that are joined to
-- a set add to it without an answer.)
use Rattle.std.specs.Prelude.{ℕ, ◌+◌, ◌*◌, ◌^◌, ◌<◌, ◌≤◌, ◌≡◌, true, List, [], ◌∷◌, ◌++◌, length, replicate}
use Rattle.misc.specs.Output.{bytes, answer_of}
use Rattle.packets.specs.Key.{Key}
use Rattle.previous_gtids_event.specs.Entry.{Entry}
use Rattle.gtid_sets.specs.Set.{has, SetForm}
use Rattle.gtid_sets.specs.Limits.{intervals}
use Rattle.gtid_sets.specs.Lent.{lent_set, SetLaid}
use Rattle.gtid_sets.specs.Combine.{either, both, combined}
use Rattle.gtid_sets.specs.Total.{total, Id, MembersOnce}
use Rattle.text.specs.Digits.{decimal}
use Rattle.text.specs.Lines.{refused_text}
use Rattle.report.specs.Report.{line_of, lines_of, added, sum_of}
use Rattle.report.specs.Built.{report_over}
use Rattle.report.specs.Text.{set_word, sum_word, report_text}
use Rattle.report.specs.declared.Line.{Line}
use Rattle.report.specs.declared.Counts.{Counts}
use Rattle.abi.specs.FlatReport.{report_in, flat_adds, flat_leaves, flat_refusal, flat_sum, flat_text}
use Rattle.resume_set_laws.specs.History.{lent_number}
use Rattle.promises.specs.PlainFaults.{WriteFault}
use Rattle.promises.specs.SetFaults.{SetFault}
use Rattle.promises.specs.Exact.{Exactly, RefusesExactly, WritesExactly}

-- ---- totals

pub record CountsMembers : Type 0 where
  -- a total is the length of every list that has each member once and nothing else; and there is one
  pub counts : (s : List Entry) (ids : List Id) → SetForm s → MembersOnce s ids → length ids ≡ total s
  pub named : (s : List Entry) → SetForm s → (ids : List Id) × MembersOnce s ids
  -- so a part's total is at most the whole's, and sets with the same members, each a part of the other, have equal ones;
  pub part : (s t : List Entry) → SetForm s → SetForm t → ((k : Key) (n : ℕ) → has s k n ≡ true → has t k n ≡ true) → total s ≤ total t
  -- what is in both of two sets is what their totals count twice
  pub twice : (s t : List Entry) → SetForm s → SetForm t → total (combined either s t) + total (combined both s t) ≡ total s + total t

-- ---- sums over sets, of which those that are none add nothing

abbrev pub lent_sum : (List Entry → ℕ) → List (List ℕ) → ℕ
lent_sum f [] = 0
lent_sum f (set ∷ sets) = lent_number f (lent_set set) + lent_sum f sets

-- ---- what is told of a set

-- a refusal's number, and zeros
abbrev pub no_numbers : ℕ → Line
no_numbers n = record { refusal = n; entries = 0; intervals = 0; high = 0; low = 0 }

pub data Told (set : List ℕ) : Line → Type 0 where
  -- 14: it is no set
  bad_set : {n : ℕ} → SetFault set n → Told set (no_numbers n)
  -- else its numbers, the last two being the words of one
  counted : {s : List Entry} {high low : ℕ} → SetLaid set s → total s ≡ high * 2 ^ 64 + low → low < 2 ^ 64
      → Told set (record { refusal = 0; entries = length s; intervals = intervals s; high = high; low = low })

-- and by a report, given those before it
pub data AddAnswer (before : List (List ℕ)) (set : List ℕ) : Line → Type 0 where
  -- 11: 64 came before it, whatever they were, and whatever it is
  full : 64 ≤ length before → AddAnswer before set (no_numbers 11)
  read : {l : Line} → length before < 64 → Told set l → AddAnswer before set l

-- ---- the text

-- four numbers in decimal after a word and single spaces: the last two are the words of one number
pub record NumbersLine (word : List ℕ) (entries intervals ids : ℕ) (line : List ℕ) : Type 0 where
  pub high : ℕ
  pub low : ℕ
  pub words : ids ≡ high * 2 ^ 64 + low
  pub small : low < 2 ^ 64
  pub is : line ≡ word ++ (32 ∷ decimal entries) ++ (32 ∷ decimal intervals) ++ (32 ∷ decimal high) ++ (32 ∷ decimal low) ++ (10 ∷ [])

pub data SetLine (set : List ℕ) : List ℕ → Type 0 where
  counted : {s : List Entry} {line : List ℕ} → SetLaid set s → NumbersLine set_word (length s) (intervals s) (total s) line → SetLine set line
  refused : {n : ℕ} → SetFault set n → SetLine set (refused_text n)

-- a line for each set, and then the last one
pub data Lines : List (List ℕ) → List ℕ → List ℕ → Type 0 where
  none : (last : List ℕ) → Lines [] last last
  next : {set line : List ℕ} {sets : List (List ℕ)} {last rest : List ℕ} → SetLine set line → Lines sets last rest → Lines (set ∷ sets) last (line ++ rest)

-- ---- a way of reporting: what it answers for a set after others, and the sums and the text over sets

pub record Reporting : Type 0 where
  pub answers : List (List ℕ) → List ℕ → Line
  pub sums : List (List ℕ) → Counts
  pub text : List (List ℕ) → List ℕ

pub record ReportsExactly (f : Reporting) : Type 0 where
  pub answers : (before : List (List ℕ)) (set : List ℕ) (l : Line) → Exactly (f.answers before set ≡ l) (AddAnswer before set l)
  -- over at most 64 sets; an id in two of them counts twice
  pub sum_entries : (sets : List (List ℕ)) → length sets ≤ 64 → (f.sums sets).entries ≡ lent_sum length sets
  pub sum_intervals : (sets : List (List ℕ)) → length sets ≤ 64 → (f.sums sets).intervals ≡ lent_sum intervals sets
  pub sum_ids : (sets : List (List ℕ)) → length sets ≤ 64 → (f.sums sets).high * 2 ^ 64 + (f.sums sets).low ≡ lent_sum total sets
  pub words : (sets : List (List ℕ)) → length sets ≤ 64 → (f.sums sets).low < 2 ^ 64
  pub text : (sets : List (List ℕ)) → length sets ≤ 64
      → (last : List ℕ) × NumbersLine sum_word (lent_sum length sets) (lent_sum intervals sets) (lent_sum total sets) last × Lines sets last (f.text sets)
  -- what comes behind 64 sets changes nothing
  pub beyond : (sets more : List (List ℕ)) → length sets ≡ 64 → (f.sums (sets ++ more) ≡ f.sums sets) × (f.text (sets ++ more) ≡ f.text sets)

-- the one that `add`, `sum` and `write` promise
abbrev pub our_report : Reporting
our_report = record {
  answers = λ before set. (added (report_over before) set).line;
  sums = λ sets. sum_of (lines_of (report_over sets));
  text = λ sets. report_text (lines_of (report_over sets));
}

-- ---- the archive's: a report is 1,352 bytes, zeros at first

abbrev pub flat_over : List ℕ → List (List ℕ) → List ℕ
flat_over bs [] = bs
flat_over bs (set ∷ sets) = flat_over (flat_leaves bs set) sets

abbrev pub zeros : List ℕ
zeros = replicate 1352 0

pub data NoReport (bs : List ℕ) : ℕ → Type 0 where
  -- 12: they aren't so many bytes
  other_size : (length bs ≡ 1352 → ⊥) → NoReport bs 12

pub record ArchiveReports : Type 0 where
  -- over any sets it says what the library says
  pub answers : (before : List (List ℕ)) (set : List ℕ) → flat_adds (flat_over zeros before) set ≡ our_report.answers before set
  pub sums : (sets : List (List ℕ)) → flat_sum (flat_over zeros sets) ≡ our_report.sums sets
  pub text : (sets : List (List ℕ)) → flat_text (flat_over zeros sets) ≡ bytes (our_report.text sets)
  -- bytes that are no report are 12
  pub gtid_report_add : (bs set : List ℕ) → Exactly (flat_adds bs set ≡ no_numbers 12) (NoReport bs 12)
  -- every refusal leaves them as they were, but for 14, which is a line of the report
  pub kept : (bs set : List ℕ) → ((flat_adds bs set).refusal ≡ 0 → ⊥) → ((flat_adds bs set).refusal ≡ 14 → ⊥) → flat_leaves bs set ≡ bs
  pub gtid_report_sum : (bs : List ℕ) → RefusesExactly (flat_refusal bs) (NoReport bs)
  pub sum_zeros : (bs : List ℕ) (n : ℕ) → NoReport bs n → flat_sum bs ≡ record { entries = 0; intervals = 0; high = 0; low = 0 }
  pub gtid_report_write : (bs out : List ℕ)
      → WritesExactly (answer_of out (flat_text bs)) (WriteFault (NoReport bs) (λ text. (length bs ≡ 1352) × (text ≡ report_text (lines_of (report_in bs))))
      (length out))

-- ---- together

pub record Reports : Type 0 where
  pub totals : CountsMembers
  pub report : ReportsExactly our_report
  pub line_of : (set : List ℕ) (l : Line) → Exactly (line_of (lent_set set) ≡ l) (Told set l)
  -- no report is longer. (`write` is `write` of `IntegersExact`: 13 says nothing of the sets, and the report is the same as before)
  pub longest : (sets : List (List ℕ)) → length (our_report.text sets) ≤ 2476
  pub archive : ArchiveReports
