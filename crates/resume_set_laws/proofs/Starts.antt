-- What a body becomes that is taken in: the bytes of a set of its ids, whatever output was lent.
use Prim.Native.Nat.{ℕ}
use mathlib.Core.Path.{◌≡◌, refl, sym, ap, ◌∙◌}
use mathlib.Core.Bool.{true, false}
use mathlib.Core.List.{List}
use native.Mathlib.Omega.{arith}
use lib.Dec.{leb}
use lib.ListN.{length, take}
use lib.Seq.{take-append_seam}
use borrow.Author.Tests.{leb-true}
use Rattle.std.specs.Prelude.{Ok}
use Rattle.misc.specs.declared.refusal.Refusal.{Refusal}
use Rattle.misc.specs.Refusal.{bad_gno, too_long}
use Rattle.misc.specs.Body.{body_limit}
use Rattle.misc.specs.Parse.{Parse, refuse, parsed}
use Rattle.misc.specs.Output.{Output, bytes, refused, output_of, answer_of}
use Rattle.misc.proofs.ParseLaws.{ok-err}
use Rattle.misc.proofs.BodyLaws.{body_limit-is}
use Rattle.packets.proofs.Tests.{split}
use Rattle.previous_gtids_event.specs.Entry.{Entry}
use Rattle.previous_gtids_event.specs.Previous.{previous}
use Rattle.previous_gtids_event.specs.Rewrite.{body_bytes}
use Rattle.previous_gtids_event.proofs.RoundTrip.{laid-read}
use Rattle.gtid_sets.specs.TakeIn.{lawful, taken_set}
use Rattle.gtid_sets.specs.Limits.{Judged, fine, breaks, limits}
use Rattle.gtid_sets.specs.Lent.{form, lent_set}
use Rattle.gtid_sets.proofs.FormLaws.{lawful-holds}
use Rattle.gtid_sets.proofs.LentLaws.{lent-take_in}
use Rattle.set_join.specs.Answers.{saved_if, taken_in}
use Rattle.resume_set_laws.specs.History.{TakesIn}

-- the front of an output that has room
pub front : (out bs : List ℕ) → leb (length bs) (length out) ≡ true → take (length bs) (output_of out (bytes bs)) ≡ bs
unfolding output_of
front out bs h = rw h (take-append_seam bs _)

-- bytes that were written stand at the output's front
wrote : (out : List ℕ) (o : Output) (set : List ℕ) (len : ℕ) → answer_of out o ≡ Ok len → take len (output_of out o) ≡ set → o ≡ bytes set
unfolding answer_of
wrote out (refused r) set len told is = absurd (ok-err (sym told))
wrote out (bytes bs) set len told is = split (leb (length bs) (length out))
    (λ h.
    let told : Ok (length bs) ≡ Ok len = rw h at told in
    let size : len ≡ length bs = cc in
    let front-is : take (length bs) (output_of out (bytes bs)) ≡ set = rw size at is in
    ap bytes (sym (front out bs h) ∙ front-is))
    (λ h. absurd (ok-err (sym (rw h at told))))

-- a body that is too long isn't accepted
long-refused : (body : List ℕ) → leb (length body) body_limit ≡ false → previous body ≡ refuse too_long
unfolding previous
long-refused body h = rw h

not-refused : (out : List ℕ) (r : Refusal) {len : ℕ} → answer_of out (refused r) ≡ Ok len → ⊥
unfolding answer_of
not-refused out r e = ok-err (sym e)

-- so one that is accepted is read as it is laid out
reads : (body : List ℕ) (es : List Entry) (set : List ℕ) (t : TakesIn body es set) → previous body ≡ parsed es t.used
reads body es set t = split (leb (length body) body_limit)
    (λ h. laid-read body es t.used t.are_bytes (omega (arith, leb-true (length body) body_limit h, body_limit-is)) t.laid)
    (λ h. absurd (not-refused t.out too_long (sym (ap (λ (p : Parse (List Entry)). answer_of t.out (taken_in p)) (long-refused body h)) ∙ t.accepts)))

becomes : (body : List ℕ) (es : List Entry) (set : List ℕ) (t : TakesIn body es set) → taken_in (parsed es t.used) ≡ bytes set
becomes body es set t = ap taken_in (sym (reads body es set t)) ∙ wrote t.out (taken_in (previous body)) set t.len t.accepts t.writes

pub starts : (body : List ℕ) (es : List Entry) (set : List ℕ) → TakesIn body es set → lent_set set ≡ form (taken_set es)
starts body es set t = split (lawful es)
    (λ good. go good (limits (taken_set es)) refl (rw good at (becomes body es set t)))
    (λ bad. let w : refused bad_gno ≡ bytes set = rw bad at (becomes body es set t) in absurd (let z : ◌≡◌ {A = ℕ} 0 1 = cc in omega arith))
  where
    go : lawful es ≡ true → (j : Judged) → limits (taken_set es) ≡ j → saved_if j (body_bytes (taken_set es)) ≡ bytes set → lent_set set ≡ form (taken_set es)
    go good fine l w =
        let same : body_bytes (taken_set es) ≡ set = cc in
        rw (← same) (lent-take_in body es t.used (reads body es set t) (lawful-holds es good) l)
    go good (breaks r) l w = absurd (let z : ◌≡◌ {A = ℕ} 0 1 = cc in omega arith)
