-- Laws of answers and outputs.
use Prim.Native.Nat.{ℕ}
use mathlib.Core.Path.{◌≡◌, refl, sym, ap, ◌∙◌}
use mathlib.Core.Bool.{Bool, true, false}
use mathlib.Core.List.{List, ◌++◌}
use borrow.Author.Tests.{eq-eqb, ne_eqb}
use lib.Dec.{leb}
use lib.ListN.{length, take}
use Rattle.std.specs.Prelude.{Result, Ok, Err}
use Rattle.misc.specs.declared.refusal.Refusal.{Refusal}
use Rattle.misc.specs.declared.refusal.WriteError.{WriteError}
use Rattle.misc.specs.declared.refusal.WriteError.TheVariants.{Refused}
use Rattle.misc.specs.Output.{bytes, output_of, answer_of}
use Rattle.misc.proofs.ParseLaws.{ok-err, answered-ok, answered-err}
use Rattle.packets.specs.Gno.{is_gno}
use Rattle.packets.specs.Key.{Key}
use Rattle.packets.proofs.Tests.{split}
use Rattle.previous_gtids_event.specs.Rewrite.{any_tag, body_bytes}
use Rattle.gtid_event.specs.declared.GtidEvent.{GtidEvent}
use Rattle.gtid_event_read.specs.Read.{named, gtid_read}
use Rattle.gtid_event_read.specs.declared.GtidRead.{GtidRead}
use Rattle.gtid_sets.specs.Set.{has, add}
use Rattle.gtid_sets.specs.Limits.{Judged, fine, breaks, limits, intervals}
use Rattle.gtid_sets.specs.Run.{anonymous, broken, names}
use Rattle.gtid_sets.specs.Lent.{Lent, form, unfit, lent_set}
use Rattle.set_check.specs.Check.{checked_of}
use Rattle.set_check.specs.declared.Checked.{Checked}
use Rattle.set_check.proofs.SetOfLaws.{check-told}
use Rattle.set_join.specs.Answers.{output, held, joined_id}
use Rattle.set_join.specs.declared.Joined.{Joined}
use Rattle.resume_set.specs.Answers.{set_read, event_of, fitting, offered}
use Rattle.resume_set.specs.declared.SetRead.{SetRead}
use Rattle.resume_set.specs.declared.Offered.{Offered}
use Rattle.resume_set.specs.declared.Offered.TheVariants.{NoId, AlreadyThere, Taken}

-- ---- what the check told

pub set-read : (x : Lent) (c : Checked) → Ok c ≡ checked_of x
    → ◌≡◌ {A = Result SetRead Refusal} (Ok (record { entries = c.entries; intervals = c.intervals })) (set_read x)
set-read unfit c e = absurd (ok-err e)
set-read (form s) c e =
    let told : c ≡ record { tagged = any_tag s; entries = length s; intervals = intervals s } = cc in
    ap (λ (y : Checked). Ok (record { entries = y.entries; intervals = y.intervals })) told

pub set_unfit : (x : Lent) (r : Refusal) → Err r ≡ checked_of x → Err r ≡ set_read x
set_unfit unfit r e = cc
set_unfit (form s) r e = absurd (ok-err (sym e))

-- ---- an id

-- what was written, as an answer of this case
abbrev pub told_as : (ℕ → Offered) → Result ℕ WriteError → Result Offered WriteError
told_as case (Ok len) = Ok (case len)
told_as case (Err e) = Err e

-- which case it is, by whether it was there
abbrev pub case_of : Bool → ℕ → Offered
case_of true = AlreadyThere
case_of false = Taken

told-bytes : (case : ℕ → Offered) (l bs : List ℕ) → told_as case (answer_of l (bytes bs)) ≡ fitting case (length bs) (length l)
unfolding answer_of
told-bytes case l bs = split (leb (length bs) (length l)) (λ h. rw h) (λ h. rw h)

-- one that was joined to a set, or wasn't
joined-told : (x : Lent) (k : Key) (n : ℕ) (out : List ℕ)
    → told_as (case_of (held x k n)) (answer_of out (output x (names k n))) ≡ offered x (names k n) (length out)
unfolding answer_of
joined-told unfit k n out = refl
joined-told (form s) k n out = go (is_gno n) refl (has s k n) refl (limits (add k n s)) refl
  where
    go : (g : Bool) → is_gno n ≡ g → (h : Bool) → has s k n ≡ h → (j : Judged) → limits (add k n s) ≡ j
        → told_as (case_of (held (form s) k n)) (answer_of out (output (form s) (names k n))) ≡ offered (form s) (names k n) (length out)
    go false g h p j q = rw g
    go true g true p j q = rw (g, p) (told-bytes AlreadyThere out (body_bytes s))
    go true g false p fine q = rw (g, p, q) (told-bytes Taken out (body_bytes (add k n s)))
    go true g false p (breaks r) q = rw (g, p, q)

pub id-offered : (bs : List ℕ) (e : GtidEvent) (out : List ℕ) (j : Joined) → j ≡ joined_id (lent_set bs) (e.sid ++ take e.tag_len e.tag) e.gno out
    → told_as (case_of j.already) j.wrote ≡ offered (lent_set bs) (names (e.sid ++ take e.tag_len e.tag) e.gno) (length out)
id-offered bs e out j told =
    ap (λ (y : Joined). told_as (case_of y.already) y.wrote) told ∙ joined-told (lent_set bs) (e.sid ++ take e.tag_len e.tag) e.gno out

-- ---- what was read of an event

module _ (type : ℕ) (body : List ℕ) where
  pub event-broken : {x : Refusal} → Err x ≡ gtid_read (named type body) → event_of type body ≡ broken x
  unfolding event_of
  event-broken e = rw (answered-err _ (named type body) e)

  module _ {said : GtidRead} (is : Ok said ≡ gtid_read (named type body)) where
    pub event-id : (type ≡ 34 → ⊥) → event_of type body ≡ names (said.event.sid ++ take said.event.tag_len said.event.tag) said.event.gno
    unfolding event_of
    event-id other =
        let (seen, next, found, same) = answered-ok _ (named type body) is in
        rw (found, ne_eqb type 34 other)
        (ap (λ (x : GtidRead). names (x.event.sid ++ take x.event.tag_len x.event.tag) x.event.gno) (sym same))

    pub event-none : type ≡ 34 → event_of type body ≡ anonymous
    unfolding event_of
    event-none e =
        let (seen, next, found, same) = answered-ok _ (named type body) is in
        rw (found, eq-eqb type 34 e)

-- ---- an event that names no id

module _ (bs out : List ℕ) {c : Checked} (told : Ok c ≡ checked_of (lent_set bs)) where
  pub offer-broken : (x : Refusal)
      → (Err (Refused x) ≡ offered (lent_set bs) (broken x) (length out)) × (out ≡ output_of out (output (lent_set bs) (broken x)))
  unfolding output_of
  offer-broken x = rw (check-told bs told).lent (refl, refl)

  pub offer-none : {w : Result ℕ WriteError} {d : List ℕ} → w ≡ answer_of out (bytes bs) → d ≡ output_of out (bytes bs)
      → (told_as NoId w ≡ offered (lent_set bs) anonymous (length out)) × (d ≡ output_of out (output (lent_set bs) anonymous))
  offer-none p q =
      let f = check-told bs told in
      rw (f.lent, ← f.set.written) (ap (told_as NoId) p ∙ told-bytes NoId out bs, q)
