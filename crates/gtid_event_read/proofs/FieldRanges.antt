-- What holds of the fields of a tagged event, whatever bytes were read: their numbers are in range, the uuid is whole, the tag is kept as a
-- record keeps one.
use mathlib.Core.Path.{◌≡◌, refl, ap}
use mathlib.Core.Bool.{true, false, false≢true}
use mathlib.Core.List.{List, [], ◌∷◌}
use Prim.Native.Nat.{ℕ, zero, suc, ◌≤◌}
use native.Mathlib.Omega.{arith}
use lib.Dec.{leb, ltb}
use lib.ListN.{length, get_or, set, replicate}
use lib.Seq.{set_out, get_or-set_same, get_or-set_other}
use Rattle.misc.specs.Refusal.{bad_tag}
use Rattle.misc.specs.Parse.{Bytes, parsed, and_then, many, bytes_at}
use Rattle.misc.specs.Varlen.{varlen_at}
use Rattle.misc.specs.Signed.{natural_at}
use Rattle.misc.proofs.ParseLaws.{split, never, then-parsed, mapped-parsed, judged-parsed, pick-either}
use Rattle.misc.proofs.Bounds.{zero-at, zeros-bytes, varlen-below, natural-below}
use Rattle.packets.specs.Tag.{is_tag}
use Rattle.packets.specs.Kept.{padded}
use Rattle.gtid_event.specs.Event.{undefined_version}
use Rattle.gtid_event_read.specs.Fields.{Kind, any_number, up_to, natural, uuid, tag, unknown, kind_of, no_fields, with_number, with_uuid, with_tag_bytes}
use Rattle.gtid_event_read.specs.Fields.{limited_at, uuid_at, tag_at, value_at, field_at, fields_from, fields_of}
use Rattle.gtid_event_read.specs.Range.{limit_of, InRange}
use Rattle.gtid_event_read.specs.declared.Fields.{Fields}
use Rattle.gtid_event_read.proofs.FieldLaws.{limited-parsed}

-- what holds of no fields, and after a field if it held before it, holds of all of them
pub fields-hold : (P : Fields → Type 0) (last : ℕ) (s : List ℕ) → P no_fields
    → ((f : Fields) (at : ℕ) (g : Fields) (next : ℕ) → P f → field_at last s f at ≡ parsed g next → P g)
    → {g : Fields} {next : ℕ} → fields_of last s ≡ parsed g next → P g
unfolding fields_from
fields-hold P last s start step e = go (length s) no_fields 0 start e
  where
    go : (n : ℕ) (f : Fields) (at : ℕ) → P f → {g : Fields} {next : ℕ} → fields_from n last s f at ≡ parsed g next → P g
    go zero f at h {g} {next} e = let same : f ≡ g = cc in rw same at h
    go (suc n) f at h {g} {next} e =
        pick-either (ltb at (length s)) e
        (λ _ p.
        let (f', m, q, r) = then-parsed (field_at last s f at) _ g next p in
        go n f' m (step f at f' m h q) r)
        (λ _ p. let same : f ≡ g = cc in rw same at h)

-- two numbers are the same or not
split-eq : {X : Type 0} (a b : ℕ) → (a ≡ b → X) → ((a ≡ b → ⊥) → X) → X
split-eq a b f g = split a b (λ h. split b a (λ k. f (omega arith)) (λ k. g (λ e. omega arith))) (λ h. g (λ e. omega arith))

-- ---- the numbers
set-in-range : (l : List ℕ) (i v : ℕ) → InRange l → v ≤ limit_of (kind_of i) → InRange (set l i v)
set-in-range l i v h b = record { limited = go }
  where
    go : (id : ℕ) → get_or (set l i v) id 0 ≤ limit_of (kind_of id)
    go id =
        split (length l) i (λ out. rw (set_out l i v out) (h.limited id)) (λ inside.
        split-eq id i
        (λ same. rw (same, get_or-set_same l i v 0 inside) b)
        (λ other. rw (get_or-set_other l i id v 0 other) (h.limited id)))

none-in-range : InRange no_fields.numbers
none-in-range =
    set-in-range (replicate 12 0) 9 undefined_version (record { limited = λ id. rw (zero-at 12 id) (omega arith) }) (omega arith)

module _ (last : ℕ) (s : List ℕ) (bytes : Bytes s) where
  value-in-range : (k : Kind) (id : ℕ) → kind_of id ≡ k → (f : Fields) (at : ℕ) → InRange f.numbers → {g : Fields} {next : ℕ}
      → value_at k last id s f at ≡ parsed g next → InRange g.numbers
  value-in-range any_number id is f at h {g} {next} e =
      let (v, p, q) = mapped-parsed (with_number id f) (varlen_at s at) g next e in
      rw q (set-in-range f.numbers id v h (rw is (omega (arith, varlen-below s bytes at p))))
  value-in-range (up_to limit) id is f at h {g} {next} e =
      let (v, p, q) = mapped-parsed (with_number id f) (limited_at limit s at) g next e in
      rw q (set-in-range f.numbers id v h (rw is (limited-parsed limit s at v next p).1))
  value-in-range natural id is f at h {g} {next} e =
      let (v, p, q) = mapped-parsed (with_number id f) (natural_at s at) g next e in
      rw q (set-in-range f.numbers id v h (rw is (omega (arith, natural-below s bytes at p))))
  value-in-range uuid id is f at h {g} {next} e =
      let (v, p, q) = mapped-parsed (with_uuid f) (uuid_at s at) g next e in
      rw q h
  value-in-range tag id is f at h {g} {next} e =
      let (v, p, q) = mapped-parsed (with_tag_bytes f) (tag_at s at) g next e in
      rw q h
  value-in-range unknown id is f at h {g} {next} e =
      pick-either (leb id last) e (λ _ p. never p) (λ _ p. let same : f ≡ g = cc in rw same at h)

  field-in-range : (f : Fields) (at : ℕ) → InRange f.numbers → {g : Fields} {next : ℕ} → field_at last s f at ≡ parsed g next → InRange g.numbers
  unfolding field_at
  field-in-range f at h {g} {next} e =
      let (id, m, p, q) = then-parsed (varlen_at s at) _ g next e in
      value-in-range (kind_of id) id refl f m h q

pub fields-in-range : (last : ℕ) (s : List ℕ) → Bytes s → {g : Fields} {next : ℕ} → fields_of last s ≡ parsed g next → InRange g.numbers
fields-in-range last s bytes e =
    fields-hold (λ (f : Fields). InRange f.numbers) last s none-in-range (λ f at g next h p. field-in-range last s bytes f at h p) e

-- ---- the uuid and the tag of the fields

-- the tag's bytes are those of a tag once its field was there
pub record Shaped (f : Fields) : Type 0 where
  pub uuid : length f.sid ≡ 16
  pub uuid-bytes : Bytes f.sid
  pub tag : List ℕ
  pub kept : f.tag ≡ padded 32 tag
  pub counted : f.tag_len ≡ length tag
  pub valid : get_or f.present 3 false ≡ true → is_tag tag ≡ true

none-shaped : Shaped no_fields
unfolding padded
none-shaped = record { uuid = refl; uuid-bytes = zeros-bytes 16; tag = []; kept = refl; counted = refl; valid = λ h. absurd (false≢true h) }

number-shaped : (f : Fields) (id v : ℕ) → (3 ≡ id → ⊥) → Shaped f → Shaped (with_number id f v)
number-shaped f id v other h = record {
  uuid = h.uuid;
  uuid-bytes = h.uuid-bytes;
  tag = h.tag;
  kept = h.kept;
  counted = h.counted;
  valid = λ there. h.valid (rw (get_or-set_other f.present id 3 true false other) at there);
}

cons-bytes : (b : ℕ) (bs : List ℕ) → b ≤ 255 → Bytes bs → Bytes (b ∷ bs)
cons-bytes b bs low rest zero = omega arith
cons-bytes b bs low rest (suc i) = rest i

items-read : (s : List ℕ) (n at : ℕ) {l : List ℕ} {next : ℕ} → many (limited_at 255 s) n at ≡ parsed l next → (length l ≡ n) × Bytes l
unfolding many
items-read s zero at {l} {next} e = let none : [] ≡ l = cc in rw (← none) (refl, λ i. omega arith)
items-read s (suc n) at {l} {next} e =
    let (b, m, p, q) = then-parsed (limited_at 255 s at) _ l next e in
    let (rest, last, r, u) = then-parsed (many (limited_at 255 s) n m) _ l next q in
    let whole : b ∷ rest ≡ l = cc in
    let others = items-read s n m r in
    rw (← whole) (ap suc others.0, cons-bytes b rest (limited-parsed 255 s at b m p).1 others.1)

uuid-read : (s : List ℕ) (at : ℕ) {l : List ℕ} {next : ℕ} → uuid_at s at ≡ parsed l next → (length l ≡ 16) × Bytes l
unfolding uuid_at
uuid-read s at e = items-read s 16 at e

tag-valid : (s : List ℕ) (at : ℕ) {t : List ℕ} {next : ℕ} → tag_at s at ≡ parsed t next → is_tag t ≡ true
unfolding tag_at
tag-valid s at {t} {next} e = (judged-parsed is_tag bad_tag (and_then (varlen_at s at) (λ (n from : ℕ). bytes_at n s from)) t next e).1

module _ (last : ℕ) (s : List ℕ) where
  not_three : {k : Kind} (id : ℕ) → kind_of id ≡ k → (tag ≡ k → ⊥) → 3 ≡ id → ⊥
  not_three id is other e = other (rw (← e) at is)

  value-shaped : (k : Kind) (id : ℕ) → kind_of id ≡ k → (f : Fields) (at : ℕ) → Shaped f → {g : Fields} {next : ℕ} → value_at k last id s f at ≡ parsed g next
      → Shaped g
  value-shaped any_number id is f at h {g} {next} e =
      let (v, p, q) = mapped-parsed (with_number id f) (varlen_at s at) g next e in
      rw q (number-shaped f id v (not_three id is (λ t. let clash : ◌≡◌ {A = ℕ} 0 1 = cc in omega arith)) h)
  value-shaped (up_to limit) id is f at h {g} {next} e =
      let (v, p, q) = mapped-parsed (with_number id f) (limited_at limit s at) g next e in
      rw q (number-shaped f id v (not_three id is (λ t. let clash : ◌≡◌ {A = ℕ} 0 1 = cc in omega arith)) h)
  value-shaped natural id is f at h {g} {next} e =
      let (v, p, q) = mapped-parsed (with_number id f) (natural_at s at) g next e in
      rw q (number-shaped f id v (not_three id is (λ t. let clash : ◌≡◌ {A = ℕ} 0 1 = cc in omega arith)) h)
  value-shaped uuid id is f at h {g} {next} e =
      let (v, p, q) = mapped-parsed (with_uuid f) (uuid_at s at) g next e in
      let read = uuid-read s at p in
      rw q record {
        uuid = read.0;
        uuid-bytes = read.1;
        tag = h.tag;
        kept = h.kept;
        counted = h.counted;
        valid = λ there. h.valid (rw (get_or-set_other f.present 1 3 true false (λ x. omega arith)) at there);
      }
  value-shaped tag id is f at h {g} {next} e =
      let (t, p, q) = mapped-parsed (with_tag_bytes f) (tag_at s at) g next e in
      rw q record { uuid = h.uuid; uuid-bytes = h.uuid-bytes; tag = t; kept = refl; counted = refl; valid = λ _. tag-valid s at p }
  value-shaped unknown id is f at h {g} {next} e =
      pick-either (leb id last) e (λ _ p. never p) (λ _ p. let same : f ≡ g = cc in rw same at h)

  field-shaped : (f : Fields) (at : ℕ) (g : Fields) (next : ℕ) → Shaped f → field_at last s f at ≡ parsed g next → Shaped g
  unfolding field_at
  field-shaped f at g next h e =
      let (id, m, p, q) = then-parsed (varlen_at s at) _ g next e in
      value-shaped (kind_of id) id refl f m h q

pub fields-shaped : (last : ℕ) (s : List ℕ) {g : Fields} {next : ℕ} → fields_of last s ≡ parsed g next → Shaped g
fields-shaped last s e = fields-hold Shaped last s none-shaped (field-shaped last s) e
