-- The text of a set: the line of counts, and the lines of the entries.
use Prim.Native.Nat.{ℕ, ◌+◌, ◌≤◌, ◌<◌}
use mathlib.Core.Path.{◌≡◌, sym, ap, ◌∙◌}
use mathlib.Core.List.{List, ◌++◌}
use native.Mathlib.Omega.{arith}
use lib.ListN.{length, length-append}
use Rattle.std.specs.Prelude.{Ok, Err}
use Rattle.misc.specs.Refusal.{not_a_set}
use Rattle.misc.specs.declared.refusal.Refusal.{Refusal}
use Rattle.misc.specs.declared.refusal.WriteError.TheVariants.{Refused, NoRoom}
use Rattle.misc.specs.Output.{bytes, output_of, answer_of}
use Rattle.misc.specs.Put.{PutsWhereFits}
use Rattle.misc.specs.declared.put.Put.{Put}
use Rattle.misc.proofs.ParseLaws.{ok-err}
use Rattle.misc.proofs.PutLaws.{◌and◌}
use Rattle.misc.proofs.OutputLaws.{output-fits, output-short, output-refused}
use Rattle.previous_gtids_event.specs.Entry.{Entry}
use Rattle.gtid_sets.specs.Limits.{intervals}
use Rattle.gtid_sets.specs.Lent.{Lent, form, unfit, lent_set}
use Rattle.set_check.specs.Check.{checked_of}
use Rattle.set_check.specs.Cursor.{begun, entries_left, CursorIs}
use Rattle.set_check.specs.SetOf.{set_of}
use Rattle.set_check.specs.declared.Checked.{Checked}
use Rattle.set_check.specs.declared.Cursor.{Cursor}
use Rattle.set_check.proofs.SetOfLaws.{check-told}
use Rattle.set_check.proofs.CursorLaws.{cursor-starts}
use Rattle.text.specs.Digits.{decimal}
use Rattle.listing.specs.SetText.{entries_text, set_text, listed_set}
use Rattle.listing.specs.Inside.{head_text}

head-length : (word : List ℕ) (n m : ℕ) → length (head_text word n m) ≡ length word + 21 + length (decimal n) + length (decimal m)
head-length word n m = simp length-append (omega arith)

set-text : (word : List ℕ) (s t : List Entry) (n m : ℕ) → s ≡ t → length s ≡ n → intervals s ≡ m → set_text word s ≡ head_text word n m ++ entries_text t
unfolding set_text
set-text word s t n m e p q = rw (← p, ← q, ← e)

pub list-refused : (word out : List ℕ) (l : Lent) (r : Refusal) → Err r ≡ checked_of l
    → (Err (Refused r) ≡ answer_of out (listed_set word l)) × (out ≡ output_of out (listed_set word l))
list-refused word out unfit r told =
    let same : r ≡ not_a_set = cc in
    rw same (output-refused out not_a_set)
list-refused word out (form s) r told = absurd (ok-err (sym told))

module _ (word set out : List ℕ) (c : Checked) (told : Ok c ≡ checked_of (lent_set set)) (from : Cursor) (begins : from ≡ begun c) where
  pub all-ahead : CursorIs set from × (entries_left set from ≡ set_of set)
  all-ahead = rw begins (cursor-starts set c.tagged c.entries (check-told set told).set)

  abbrev lines : List ℕ
  lines = entries_text (entries_left set from)

  listed : listed_set word (lent_set set) ≡ bytes (head_text word c.entries c.intervals ++ lines)
  listed =
      let f = check-told set told in
      ap (listed_set word) f.lent ∙ ap bytes (set-text word (set_of set) _ _ _ (sym all-ahead.1) f.set.count f.total)

  module _ (n m k : ℕ) (p : n ≡ length (decimal c.entries)) (q : m ≡ length (decimal c.intervals)) (r : k ≡ length lines) where
    size : length word + 21 + n + m + k ≡ length (head_text word c.entries c.intervals ++ lines)
    size =
        let head = head-length word c.entries c.intervals in
        omega (arith, head, length-append (head_text word c.entries c.intervals) lines)

    pub list-short : length out < length word + 21 + n + m + k
        → (Err (NoRoom (length word + 21 + n + m + k)) ≡ answer_of out (listed_set word (lent_set set)))
        × (out ≡ output_of out (listed_set word (lent_set set)))
    list-short h = rw listed (output-short out _ _ size h)

    pub list-fits : length word + 21 + n + m + k ≤ length out → {p q r : Put} → p.out.now ≡ out → p.at ≡ 0
        → PutsWhereFits p (head_text word c.entries c.intervals) q → PutsWhereFits q lines r
        → (Ok (length word + 21 + n + m + k) ≡ answer_of out (listed_set word (lent_set set))) × (r.out.now ≡ output_of out (listed_set word (lent_set set)))
    list-fits room {p} {q} {r} lent front head entries =
        let whole = (head and entries).placed (rw (lent, front) (omega (arith, size))) in
        rw listed (output-fits (omega (arith, size)) (record { holds = rw (lent, front) at whole.holds; ends = omega (arith, size) }))
