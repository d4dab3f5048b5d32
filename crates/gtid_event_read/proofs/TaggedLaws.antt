-- Laws of the tagged layout (`specs/Tagged.antt`): its envelope, its payload, and what is made of the fields.
use mathlib.Core.Path.{◌≡◌, refl, sym, ap, ◌∙◌}
use mathlib.Core.Bool.{true, false}
use mathlib.Core.List.{List}
use Prim.Native.Nat.{ℕ, ◌-◌, ◌≤◌, ◌<◌}
use native.Mathlib.Omega.{arith}
use lib.Dec.{leb, eqb}
use lib.ListN.{length, get_or}
use borrow.Author.Tests.{leb-true, eqb-true, le-leb, lt-leb, eq-eqb, ne_eqb}
use Rattle.misc.specs.Refusal.{ended, wrong_version, no_tag, small_payload}
use Rattle.misc.specs.Parse.{Parse, refuse, parsed, judged, part, byte_at}
use Rattle.misc.specs.Varlen.{varlen_at}
use Rattle.misc.proofs.ParseLaws.{never, then-parsed, judged-parsed, pick-parsed, byte-here, byte-gone, byte-parsed}
use Rattle.gtid_event_read.specs.Seen.{Seen}
use Rattle.gtid_event_read.specs.Fields.{fields_of}
use Rattle.gtid_event_read.specs.Tagged.{seen_of, finished, payload_at, tagged}
use Rattle.gtid_event_read.specs.declared.Fields.{Fields}

-- ---- the envelope
module _ (s : List ℕ) where
  pub tagged-gone : length s < 1 → tagged s ≡ refuse ended
  unfolding tagged
  tagged-gone h = rw (byte-gone s 0 (omega arith))

  pub tagged-other : 1 ≤ length s → (get_or s 0 0 ≡ 2 → ⊥) → tagged s ≡ refuse wrong_version
  unfolding tagged
  tagged-other h ne = rw (byte-here s 0 h, ne_eqb (get_or s 0 0) 2 ne)

  module _ (h : 1 ≤ length s) (two : get_or s 0 0 ≡ 2) where
    pub version-here : judged (λ (version : ℕ). eqb version 2) wrong_version (byte_at s 0) ≡ parsed (get_or s 0 0) 1
    version-here = rw (byte-here s 0 h, eq-eqb (get_or s 0 0) 2 two)

    pub tagged-here : {size at last start : ℕ} → varlen_at s 1 ≡ parsed size at → varlen_at s at ≡ parsed last start → tagged s ≡ payload_at s size last start
    unfolding tagged
    tagged-here p q = rw (version-here, p, q)

-- ---- the payload
module _ (s : List ℕ) (size last start : ℕ) where
  pub payload-small : size < start → payload_at s size last start ≡ refuse small_payload
  payload-small h = rw (lt-leb start size h)

  module _ (large : start ≤ size) where
    pub payload_cut : length s < size → payload_at s size last start ≡ refuse ended
    payload_cut h = rw (le-leb start size large, lt-leb size (length s) h)

-- ---- what a success says of the parts
pub record TaggedParts (s : List ℕ) (e : Seen) (next : ℕ) : Type 0 where
  pub size : ℕ
  pub size-end : ℕ
  pub last : ℕ
  pub start : ℕ
  pub version : byte_at s 0 ≡ parsed 2 1
  pub size-read : varlen_at s 1 ≡ parsed size size-end
  pub last-read : varlen_at s size-end ≡ parsed last start
  pub large : start ≤ size
  pub here : size ≤ length s
  pub fields : Fields
  pub fields-end : ℕ
  pub fields_read : fields_of last (part s start (size - start)) ≡ parsed fields fields-end
  pub tag_there : get_or fields.present 3 false ≡ true
  pub is : e ≡ seen_of fields
  pub ends : next ≡ size

finished-parsed : (end : ℕ) (p : Parse Fields) {e : Seen} {next : ℕ} → finished end p ≡ parsed e next
    → (f : Fields) × (at : ℕ) × (p ≡ parsed f at) × (get_or f.present 3 false ≡ true) × (e ≡ seen_of f) × (next ≡ end)
finished-parsed end (refuse x) q = never q
finished-parsed end (parsed f at) {e} {next} q =
    let (there, r) = pick-parsed (get_or f.present 3 false) (parsed (seen_of f) end) no_tag e next q in
    (f, at, refl, there, cc, cc)

pub tagged-parsed : (s : List ℕ) {e : Seen} {next : ℕ} → tagged s ≡ parsed e next → TaggedParts s e next
unfolding tagged
tagged-parsed s {e} {next} q =
    let (version, at₁, p₁, e₁) = then-parsed (judged (λ (v : ℕ). eqb v 2) wrong_version (byte_at s 0)) _ e next q in
    let (byte, two) = judged-parsed (λ (v : ℕ). eqb v 2) wrong_version (byte_at s 0) version at₁ p₁ in
    let second : at₁ ≡ 1 = (byte-parsed s 0 version at₁ byte).2 in
    let (size, at₂, p₂, e₂) = then-parsed (varlen_at s at₁) _ e next e₁ in
    let (last, start, p₃, e₃) = then-parsed (varlen_at s at₂) (payload_at s size) e next e₂ in
    let (large, r) = pick-parsed (leb start size) _ small_payload e next e₃ in
    let (here, u) = pick-parsed (leb size (length s)) _ ended e next r in
    let (f, at, fields, there, is, ends) = finished-parsed size (fields_of last (part s start (size - start))) u in
    record {
      size = size;
      size-end = at₂;
      last = last;
      start = start;
      version = byte ∙ ap (λ (v : ℕ). parsed v at₁) (eqb-true version 2 two) ∙ ap (parsed 2) second;
      size-read = ap (varlen_at s) (sym second) ∙ p₂;
      last-read = p₃;
      large = leb-true start size large;
      here = leb-true size (length s) here;
      fields = f;
      fields-end = at;
      fields_read = fields;
      tag_there = there;
      is = is;
      ends = ends;
    }
