-- Laws of reading by the event's type (`specs/Read.antt`): which layout is read, and that what is used lies in the body.
use mathlib.Core.Path.{◌≡◌, sym, ap, ◌∙◌}
use mathlib.Core.Logic.{◌⊎◌, inl, inr}
use mathlib.Core.Bool.{true, ◌||◌}
use mathlib.Core.List.{List}
use Prim.Native.Nat.{ℕ, ◌+◌, ◌-◌, ◌*◌, ◌≤◌, ◌<◌}
use native.Mathlib.Omega.{arith}
use lib.Dec.{leb, eqb}
use lib.ListN.{length}
use borrow.Author.Tests.{leb-true, eqb-true, ne_eqb}
use Rattle.misc.specs.Refusal.{wrong_type, too_long}
use Rattle.misc.specs.declared.refusal.Refusal.{Refusal}
use Rattle.misc.specs.Parse.{Parse, refuse, parsed, mapped}
use Rattle.misc.specs.Body.{body_limit}
use Rattle.misc.specs.Le.{le_at}
use Rattle.misc.specs.Lenenc.{lenenc_at}
use Rattle.misc.specs.Mark.{has_bit, clear_bit}
use Rattle.misc.proofs.ParseLaws.{split, never, then-parsed, mapped-parsed, pick-either, pick-parsed, answered-ok, answered-err}
use Rattle.misc.proofs.BodyLaws.{body-fits, body-too-long}
use Rattle.misc.proofs.Forward.{le-forward, lenenc-forward}
use Rattle.packets.proofs.Tests as tests
use Rattle.gtid_event.specs.Event.{undefined_version}
use Rattle.gtid_event.specs.declared.GtidEvent.{GtidEvent}
use Rattle.gtid_event_read.specs.Seen.{Seen, untagged_seen}
use Rattle.gtid_event_read.specs.Untagged.{Pair, pair, original_after, pair_at, if_left, timestamps_at, length_at, versions_at, opening_at, clock_at}
use Rattle.gtid_event_read.specs.Untagged.{typecode_at}
use Rattle.gtid_event_read.specs.Untagged.{untagged}
use Rattle.gtid_event_read.specs.Tagged.{tagged}
use Rattle.gtid_event_read.specs.Read.{seen, record_in, gtid, told, gtid_read}
use Rattle.std.specs.Prelude.{Ok, Err}
use Rattle.gtid_event_read.specs.declared.GtidRead.{GtidRead}
use Rattle.gtid_event_read.proofs.UntaggedLaws.{opening-parsed, clock-parsed}
use Rattle.gtid_event_read.proofs.TaggedLaws.{tagged-parsed}

-- ---- by the type
module _ (type : ℕ) (s : List ℕ) where
  pub seen-too-long : 65536 < length s → seen type s ≡ refuse too_long
  unfolding seen
  seen-too-long h = body-too-long s _ h

  module _ (fits : length s ≤ 65536) where
    pub seen-untagged : 33 ≤ type → type < 35 → seen type s ≡ mapped untagged_seen (untagged s)
    unfolding seen
    seen-untagged l h =
        split type 33
        (λ k. let e : type ≡ 33 = omega arith in rw e (body-fits s (mapped untagged_seen (untagged s)) fits))
        (λ k. let e : type ≡ 34 = omega arith in rw e (body-fits s (mapped untagged_seen (untagged s)) fits))

    pub seen-42 : type ≡ 42 → seen type s ≡ tagged s
    unfolding seen
    seen-42 e = rw e (body-fits s (tagged s) fits)

    pub seen_other : (33 ≤ type → type < 35 → ⊥) → (type ≡ 42 → ⊥) → seen type s ≡ refuse wrong_type
    unfolding seen
    seen_other out c =
        rw (ne_eqb type 33 (λ e. out (omega arith) (omega arith)), ne_eqb type 34 (λ e. out (omega arith) (omega arith)), ne_eqb type 42 c)
        (body-fits s (refuse wrong_type) fits)

-- ---- what is used lies in the body
module _ (s : List ℕ) where
  pair_inside : (w at : ℕ) {p : Pair} {next : ℕ} → pair_at w s at ≡ parsed p next → next ≤ length s
  unfolding pair_at
  pair_inside w at {p} {next} e =
      let (v, m, q, r) = then-parsed (le_at w s at) (original_after w s) p next e in
      pick-either (has_bit (8 * w - 1) v) r
      (λ _ t. let (o, u, z) = mapped-parsed (pair (clear_bit (8 * w - 1) v)) (le_at w s m) p next t in (le-forward s m w u).1)
      (λ _ t. let same : m ≡ next = cc in rw same at (le-forward s at w q).1)

  left-inside : {A : Type 0} (n at : ℕ) (absent : A) (item : Parse A) → at ≤ length s → ((a : A) (m : ℕ) → item ≡ parsed a m → m ≤ length s)
      → (a : A) (next : ℕ) → if_left n s at absent item ≡ parsed a next → next ≤ length s
  left-inside n at absent item h inside a next e =
      pick-either (leb n (length s - at)) e (λ _ p. inside a next p) (λ _ p. let same : at ≡ next = cc in rw same at h)

  timestamps-inside : (at : ℕ) → at ≤ length s → {p : Pair} {next : ℕ} → timestamps_at s at ≡ parsed p next → next ≤ length s
  unfolding timestamps_at
  timestamps-inside at h {p} {next} e = left-inside 7 at (pair 0 0) (pair_at 7 s at) h (λ _ _ q. pair_inside 7 at q) p next e

  length-inside : (at : ℕ) → at ≤ length s → {v next : ℕ} → length_at s at ≡ parsed v next → next ≤ length s
  unfolding length_at
  length-inside at h {v} {next} e = left-inside 1 at 0 (lenenc_at s at) h (λ _ _ q. (lenenc-forward s at q).1) v next e

  versions-inside : (at : ℕ) → at ≤ length s → {p : Pair} {next : ℕ} → versions_at s at ≡ parsed p next → next ≤ length s
  unfolding versions_at
  versions-inside at h {p} {next} e = left-inside 4 at (pair undefined_version undefined_version) (pair_at 4 s at) h (λ _ _ q. pair_inside 4 at q) p next e

  clock-inside : (event : GtidEvent) (at : ℕ) {g : GtidEvent} {next : ℕ} → clock_at s event at ≡ parsed g next → next ≤ length s
  clock-inside event at e =
      let c = clock-parsed s event at e in
      let h : c.at₂ ≤ length s = (le-forward s c.at₁ 8 c.sequence-read).1 in
      versions-inside c.at₄ (length-inside c.at₃ (timestamps-inside c.at₂ h c.timestamps-read) c.len_read) c.versions-read

  untagged-inside : {g : GtidEvent} {next : ℕ} → untagged s ≡ parsed g next → next ≤ length s
  unfolding untagged
  untagged-inside {g} {next} e =
      let (event, at, p, q) = then-parsed (opening_at s 0) _ g next e in
      pick-either (typecode_at s at) q (λ _ r. clock-inside event (at + 1) r)
      (λ _ r. let same : at ≡ next = cc in let o = opening-parsed s 0 p in rw same at (le-forward s o.at₂ 8 o.gno-read).1)

  tagged-inside : {g : Seen} {next : ℕ} → tagged s ≡ parsed g next → next ≤ length s
  tagged-inside e = let t = tagged-parsed s e in rw t.ends t.here

-- ---- what is seen is read in one of the two layouts

pub one_of : (type : ℕ) → eqb type 33 || eqb type 34 ≡ true → (type ≡ 33) ⊎ (type ≡ 34)
one_of type h = tests.split (eqb type 33) (λ is. inl (eqb-true type 33 is)) (λ isnt. inr (eqb-true type 34 (rw isnt at h)))

pub seen-parsed {ℓ} : {X : Type ℓ} (type : ℕ) (s : List ℕ) {x : Seen} {next : ℕ} → seen type s ≡ parsed x next
    → (length s ≤ body_limit → (type ≡ 33) ⊎ (type ≡ 34) → (e : GtidEvent) → untagged s ≡ parsed e next → x ≡ untagged_seen e → X)
    → (length s ≤ body_limit → type ≡ 42 → tagged s ≡ parsed x next → X) → X
unfolding seen
seen-parsed type s {x} {next} p plain with-fields =
    let (short, q) = pick-parsed (leb (length s) body_limit) _ too_long x next p in
    let fits : length s ≤ body_limit = leb-true (length s) body_limit short in
    pick-either (eqb type 33 || eqb type 34) q
    (λ either r. let (e, u, is) = mapped-parsed untagged_seen (untagged s) x next r in plain fits (one_of type either) e u is)
    (λ _ r. pick-either (eqb type 42) r (λ is u. with-fields fits (eqb-true type 42 is) u) (λ _. never))

seen-inside : (type : ℕ) (s : List ℕ) {x : Seen} {next : ℕ} → seen type s ≡ parsed x next → next ≤ length s
seen-inside type s p = seen-parsed type s p (λ _ _ e u is. untagged-inside s u) (λ _ _ u. tagged-inside s u)

-- what an answer tells of the record
pub record-told : (p : Parse Seen) {r : GtidRead} → Ok r ≡ gtid_read p → record_in p ≡ parsed r.event r.used
record-told p is = let (x, next, e, same) = answered-ok told p is in ap record_in e ∙ cc

pub record-stopped : (p : Parse Seen) {x : Refusal} → Err x ≡ gtid_read p → record_in p ≡ refuse x
record-stopped p is = ap record_in (answered-err told p is)

pub gtid-said : (type : ℕ) (s : List ℕ) {r : GtidRead} → Ok r ≡ gtid_read (seen type s) → gtid type s ≡ parsed r.event r.used
unfolding gtid
gtid-said type s is = record-told (seen type s) is

pub gtid-stopped : (type : ℕ) (s : List ℕ) {x : Refusal} → Err x ≡ gtid_read (seen type s) → gtid type s ≡ refuse x
unfolding gtid
gtid-stopped type s is = record-stopped (seen type s) is

-- it is that of what is seen
pub gtid-parsed : (type : ℕ) (s : List ℕ) {e : GtidEvent} {next : ℕ} → gtid type s ≡ parsed e next → (x : Seen) × (seen type s ≡ parsed x next) × (e ≡ x.event)
unfolding gtid
gtid-parsed type s {e} {next} p = mapped-parsed (λ (x : Seen). x.event) (seen type s) e next p

pub gtid-refused : (type : ℕ) (s : List ℕ) {r : Refusal} → gtid type s ≡ refuse r → seen type s ≡ refuse r
unfolding gtid
gtid-refused type s {r} p = go (seen type s) p
  where
    go : (q : Parse Seen) → record_in q ≡ refuse r → q ≡ refuse r
    go (refuse x) e = cc
    go (parsed x next) e = never (sym e)

pub gtid-inside : (type : ℕ) (s : List ℕ) {e : GtidEvent} {next : ℕ} → gtid type s ≡ parsed e next → next ≤ length s
gtid-inside type s p = let (x, q, _) = gtid-parsed type s p in seen-inside type s q
