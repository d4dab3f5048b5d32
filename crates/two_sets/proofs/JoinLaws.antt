-- Laws of joining a body to a set where the body is a set itself: the result is that of `either`.
use Prim.Native.Nat.{ℕ}
use mathlib.Core.Path.{◌≡◌}
use mathlib.Core.List.{List}
use lib.ListN.{take}
use Rattle.std.specs.Prelude.{Result, Ok}
use Rattle.misc.specs.declared.refusal.WriteError.{WriteError}
use Rattle.misc.specs.Output.{output_of, answer_of}
use Rattle.previous_gtids_event.specs.Previous.{previous}
use Rattle.previous_gtids_event.specs.Answers.{previous_read}
use Rattle.previous_gtids_event.specs.declared.PreviousRead.{PreviousRead}
use Rattle.gtid_sets.specs.Combine.{either}
use Rattle.gtid_sets.proofs.FormLaws.{lawful-tests}
use Rattle.gtid_sets.proofs.TakeInLaws.{form-lawful}
use Rattle.gtid_sets.proofs.CombineLaws.{union-either}
use Rattle.set_check.specs.Cursor.{entries_left}
use Rattle.set_join.specs.Answers.{saved}
use Rattle.set_join.specs.JoinIn.{join_answers, join_leaves}
use Rattle.set_join.proofs.TakenLaws.{set-read, entries-read}
use Rattle.two_sets.specs.Answers.{BothLent}
use Rattle.two_sets.specs.Pairs.{combining}
use Rattle.two_sets.specs.declared.Cursors.{Cursors}

-- the bytes of the body that were read are a set, and so are those of the set
pub join-both : (set body out : List ℕ) {said : PreviousRead} → Ok said ≡ previous_read (previous body) → (from : Cursors)
    → BothLent set (take said.used body) from → {w : Result ℕ WriteError} {l : List ℕ}
    → (w ≡ answer_of out (saved (combining either set (take said.used body) from)))
    × (l ≡ output_of out (saved (combining either set (take said.used body) from)))
    → (w ≡ join_answers set body out) × (l ≡ join_leaves set body out)
join-both set body out {said} is from b {w} {l} h =
    let s = entries_left set from.first in
    let t = entries_left (take said.used body) from.second in
    let (es, e) = entries-read body out is in
    let f = b.cursors.first.formed in
    let g = b.cursors.second.formed in
    rw (b.first, e, set-read body said.used es t e b.second, lawful-tests t (form-lawful t g), union-either t s g f) h
