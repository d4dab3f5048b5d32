-- `previous_gtids_event::read::entry_at` meets its contract.
use lib.Seq.{take_all}
use lib.ListN.{length, drop, length-drop}
use Prim.Native.Nat.{ℕ, ◌-◌}
use native.Mathlib.Omega.{arith}
use mathlib.Core.Path.{◌≡◌, ap, ◌∙◌}
use Rattle.std.specs.Prelude.{Ok}
use Rattle.misc.specs.Parse.{part}
use Rattle.misc.proofs.ParseLaws.{handed-on, answered-err}
use Rattle.packets.specs.Kept.{kept}
use Rattle.previous_gtids_event.specs.Answers.{entry_told}
use Rattle.previous_gtids_event.specs.Inside.{whole_told}
use Rattle.previous_gtids_event.proofs.Reading.{too-long, body-refused, body-read, whole-told, entry-answer}
use Rattle.previous_gtids_event.proofs.read.entry_at.Goals as goal

pub returns-then-body-gt-MAX_BODY : goal.returns-then-body-gt-MAX_BODY
returns-then-body-gt-MAX_BODY c = too-long entry_told _ _ (omega arith)

pub returns-in_err-read : goal.returns-in_err-read
returns-in_err-read c = handed-on _ c.from_residual.ensures
    ∙ body-refused entry_told _ _ (omega arith) (answered-err whole_told _ c.in_err-read.ensures.value)

pub returns : goal.returns
returns c = let s = c.args.body.now in
    let at = c.args.at in
    let r = c.in_ok-read.read in
    let places = c.in_ok-read.ensures.places in
    let told = whole-told c.args.tagged s at r c.in_ok-read.ensures.value in
    let size : r.value.first - 8 - (r.value.first - 8 - r.value.tag_len) ≡ r.value.tag_len = omega (arith, places) in
    let rest = take_all (length s - at) (drop at s) (rw length-drop (omega arith)) in
    ap Ok (entry-answer _ _ _ r told _ _
    (c.uuid_bytes.ensures ∙ ap (kept 16) rest)
    (c.tag_bytes.ensures ∙ ap (λ (n : ℕ). kept 32 (part s (r.value.first - 8 - r.value.tag_len) n)) size))
    ∙ body-read entry_told _ _ (omega arith) told.is
