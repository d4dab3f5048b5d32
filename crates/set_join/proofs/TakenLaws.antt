-- Laws of what taking in a body answers and writes.
use Prim.Native.Nat.{ℕ, ◌^◌, ◌<◌, ◌≤◌}
use mathlib.Core.Path.{◌≡◌, sym, ap, ◌∙◌}
use mathlib.Core.Bool.{true, false}
use mathlib.Core.List.{List, [], ◌++◌}
use native.Mathlib.Omega.{arith}
use lib.ListN.{length, take, drop, take-append-drop}
use Rattle.std.specs.Prelude.{Result, Ok, Err}
use Rattle.misc.specs.declared.refusal.Refusal.{Refusal}
use Rattle.misc.specs.declared.refusal.WriteError.{WriteError}
use Rattle.misc.specs.declared.refusal.WriteError.TheVariants.{Refused}
use Rattle.misc.specs.Refusal.{bad_gno}
use Rattle.misc.specs.Parse.{Parse, refuse, parsed, refusal_of}
use Rattle.misc.specs.Output.{refused, bytes, output_of, answer_of}
use Rattle.misc.proofs.ParseLaws.{no_zero, answered-ok, answered-err}
use Rattle.misc.proofs.OutputLaws.{output-refused}
use Rattle.previous_gtids_event.specs.Entry.{Entry}
use Rattle.previous_gtids_event.specs.Previous.{previous}
use Rattle.previous_gtids_event.specs.Rewrite.{body_bytes}
use Rattle.previous_gtids_event.specs.Answers.{previous_read}
use Rattle.previous_gtids_event.specs.declared.PreviousRead.{PreviousRead}
use Rattle.previous_gtids_event.proofs.Reading.{previous-parts, previous-inside}
use Rattle.previous_gtids_event.proofs.RoundTrip.{rewritten-read}
use Rattle.gtid_sets.specs.Limits.{intervals}
use Rattle.gtid_sets.specs.Lent.{form, lent_set}
use Rattle.gtid_sets.specs.TakeIn.{lawful, union, taken_set}
use Rattle.gtid_sets.proofs.FormLaws.{lawful-tests}
use Rattle.gtid_sets.proofs.LimitLaws.{max_intervals-is, limits-says}
use Rattle.gtid_sets.proofs.LentLaws.{well-formed, lent_is}
use Rattle.gtid_sets.proofs.TakeInLaws.{form-lawful, take_in-self}
use Rattle.set_join.specs.Answers.{saved, taken_in}
use Rattle.set_check.specs.SetOf.{entries_of}
use Rattle.set_join.proofs.AnswerLaws.{saved-fine}

-- ---- what was read, refused or by the gno rule

lawful-taken : (p : Parse (List Entry)) → refusal_of p ≡ 0 → lawful (entries_of p) ≡ true → taken_in p ≡ saved (taken_set (entries_of p))
lawful-taken (refuse x) z h = absurd (no_zero x z)
lawful-taken (parsed es next) z h = rw h

unlawful-taken : (p : Parse (List Entry)) → refusal_of p ≡ 0 → lawful (entries_of p) ≡ false → taken_in p ≡ refused bad_gno
unlawful-taken (refuse x) z h = absurd (no_zero x z)
unlawful-taken (parsed es next) z h = rw h

-- ---- a body that is a set already

-- a body that begins with a set and is read to the set's end has no other entries
pub set-read : (body : List ℕ) (used : ℕ) (es s : List Entry) → previous body ≡ parsed es used → lent_set (take used body) ≡ form s → es ≡ s
set-read body used es s e l =
    let is = lent_is (take used body) s l in
    let (h, first, found, room, small) = previous-parts body es used e in
    let whole : body_bytes s ++ drop used body ≡ body = ap (λ (x : List ℕ). x ++ drop used body) (sym is.written) ∙ take-append-drop used body in
    let few : intervals s < 2 ^ 64 = omega (arith, limits-says s is.limited, max_intervals-is) in
    let again : previous body ≡ parsed s (length (body_bytes s)) =
    ap previous (sym whole) ∙ rewritten-read s (well-formed s is.formed is.keyed few) (drop used body) (omega (arith, ap length whole)) in
    cc

-- ---- `take_in`

module _ (body out : List ℕ) where
  pub taken_refused : {x : Refusal} → Err x ≡ previous_read (previous body)
      → (Err (Refused x) ≡ answer_of out (taken_in (previous body))) × (out ≡ output_of out (taken_in (previous body)))
  taken_refused {x} told = rw (answered-err _ (previous body) told) (output-refused out x)

  module _ {said : PreviousRead} (is : Ok said ≡ previous_read (previous body)) where
    pub entries-read : (es : List Entry) × (previous body ≡ parsed es said.used)
    entries-read =
        let (es, next, e, told) = answered-ok _ (previous body) is in
        (es, e ∙ ap (parsed es) (sym (ap (λ (y : PreviousRead). y.used) told)))

    pub can-be-read : refusal_of (previous body) ≡ 0
    can-be-read = let (es, e) = entries-read in rw e

    pub used-inside : said.used ≤ length body
    used-inside = let (es, e) = entries-read in previous-inside body es said.used e

    -- its bytes are a set: they are what is taken in
    pub taken-copied : (s : List Entry) (d : List ℕ) (w : Result ℕ WriteError) → lent_set (take said.used body) ≡ form s
        → w ≡ answer_of out (bytes (take said.used body)) → d ≡ output_of out (bytes (take said.used body))
        → (w ≡ answer_of out (taken_in (previous body))) × (d ≡ output_of out (taken_in (previous body)))
    taken-copied s d w l p q =
        let (es, e) = entries-read in
        let lent = lent_is (take said.used body) s l in
        rw (e, set-read body said.used es s e l, lawful-tests s (form-lawful s lent.formed), take_in-self s lent.formed)
        (saved-fine s (take said.used body) out d w (sym lent.written) p q lent.limited)

    pub taken-unlawful : lawful (entries_of (previous body)) ≡ false
        → (Err (Refused bad_gno) ≡ answer_of out (taken_in (previous body))) × (out ≡ output_of out (taken_in (previous body)))
    taken-unlawful h = rw (unlawful-taken (previous body) can-be-read h) (output-refused out bad_gno)

    -- its ids are joined to the empty set
    pub taken-merged : lawful (entries_of (previous body)) ≡ true → {s : List Entry} → s ≡ []
        → saved (union (entries_of (previous body)) s) ≡ taken_in (previous body)
    taken-merged h none = rw none (sym (lawful-taken (previous body) can-be-read h))
