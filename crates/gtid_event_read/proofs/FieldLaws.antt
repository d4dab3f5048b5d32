-- Laws of the fields (`specs/Fields.antt`), in the form in which the functions over one field and over all of them use them.
use mathlib.Core.Path.{◌≡◌, refl, ap, ◌∙◌}
use mathlib.Core.List.{List, [], ◌++◌, append_assoc, append-nil}
use Prim.Native.Nat.{ℕ, zero, suc, ◌+◌, ◌-◌, ◌≤◌, ◌<◌}
use native.Mathlib.Numerals.{add-one}
use native.Mathlib.Omega.{arith}
use lib.Dec.{leb}
use lib.IntN.{ℤ, pos, negsuc}
use lib.ListN.{length, take, set}
use lib.Seq.{take_all, take-suc-set}
use borrow.Author.Tests.{leb-true, lt-ltb, le-ltb}
use Rattle.misc.specs.Refusal.{too_large, bad_tag}
use Rattle.misc.specs.declared.refusal.Refusal.{Refusal}
use Rattle.misc.specs.Parse.{Parse, refuse, parsed, and_then, mapped, many, bytes_at}
use Rattle.misc.specs.Varlen.{varlen_at}
use Rattle.misc.specs.Signed.{natural_at, signed_at, meant_by, not_negative}
use Rattle.misc.proofs.ParseLaws.{never, then-parsed, mapped-parsed, judged-parsed, pick-either, bytes-parsed}
use Rattle.misc.proofs.Walk.{SoFar, ahead, walk-next, walk_refused, walk_end}
use Rattle.misc.proofs.Forward.{varlen-forward}
use Rattle.packets.specs.Tag.{is_tag}
use Rattle.gtid_event_read.specs.Fields.{Kind, any_number, up_to, natural, uuid, tag, unknown, kind_of, no_fields, with_number, with_uuid}
use Rattle.gtid_event_read.specs.Fields.{with_tag_bytes, limited_at, uuid_at, tag_at, value_at, field_at, fields_from, fields_of}
use Rattle.gtid_event_read.specs.declared.Fields.{Fields}

-- ---- an integer with a limit
pub limited-parsed : (limit : ℕ) (s : List ℕ) (at v next : ℕ) → limited_at limit s at ≡ parsed v next → (varlen_at s at ≡ parsed v next) × (v ≤ limit)
unfolding limited_at
limited-parsed limit s at v next e =
    let p = judged-parsed (λ (v : ℕ). leb v limit) too_large (varlen_at s at) v next e in
    (p.0, leb-true v limit p.1)

-- ---- the sixteen integers of a uuid

-- those that are done, and then the rest
abbrev pub uuid_after : List ℕ → Parse (List ℕ) → Parse (List ℕ)
uuid_after done p = mapped (λ (rest : List ℕ). done ++ rest) p

pub uuid-start : (s : List ℕ) (at : ℕ) → SoFar uuid_after (limited_at 255 s) 16 (uuid_at s at) [] at 0
unfolding uuid_at
uuid-start s at = go (many (limited_at 255 s) 16 at)
  where
    go : (p : Parse (List ℕ)) → p ≡ uuid_after [] p
    go (refuse x) = refl
    go (parsed rest last) = refl

pub uuid-next : (done : List ℕ) (i v : ℕ) → i < length done → (p : Parse (List ℕ))
    → uuid_after (take i done) (ahead v p) ≡ uuid_after (take (i + 1) (set done i v)) p
uuid-next done i v h (refuse x) = refl
uuid-next done i v h (parsed rest last) = rw (add-one, take-suc-set done i v h, append_assoc)

pub uuid-end : (done : List ℕ) (at : ℕ) → length done ≡ 16 → uuid_after (take 16 done) (parsed [] at) ≡ parsed done at
uuid-end done at h = rw (append-nil, take_all 16 done (omega arith))

module _ (s : List ℕ) (at : ℕ) (done : List ℕ) (next i : ℕ) (all : length done ≡ 16)
    (so_far : SoFar uuid_after (limited_at 255 s) 16 (uuid_at s at) (take i done) next i) where
  pub uuid-done : i ≡ 16 → uuid_at s at ≡ parsed done next
  uuid-done e = walk_end uuid_after (limited_at 255 s) 16 (uuid_at s at) (take i done) next i so_far e ∙ rw e (uuid-end done next all)

  module _ (h : i < 16) where
    pub uuid-turn : (v m : ℕ) → limited_at 255 s next ≡ parsed v m
        → SoFar uuid_after (limited_at 255 s) 16 (uuid_at s at) (take (i + 1) (set done i v)) m (i + 1)
    uuid-turn v m e =
        walk-next uuid_after (limited_at 255 s) 16 (uuid_at s at) (take i done) next i so_far h v m e
        (take (i + 1) (set done i v)) (uuid-next done i v (omega arith))

    pub uuid-stops : {x : Refusal} → limited_at 255 s next ≡ refuse x → uuid_at s at ≡ refuse x
    uuid-stops {x} e = walk_refused uuid_after (limited_at 255 s) 16 (uuid_at s at) (take i done) next i so_far h x e

-- ---- places: a field ends behind its start
module _ (s : List ℕ) where
  limited-forward : (limit at : ℕ) {v next : ℕ} → limited_at limit s at ≡ parsed v next → at ≤ next
  limited-forward limit at {v} {next} e =
      let h = varlen-forward s at (limited-parsed limit s at v next e).0 in
      omega arith

  many-forward : (n at : ℕ) {l : List ℕ} {next : ℕ} → many (limited_at 255 s) n at ≡ parsed l next → at ≤ next
  unfolding many
  many-forward zero at {l} {next} e = let h : at ≡ next = cc in omega arith
  many-forward (suc n) at {l} {next} e =
      let (v, m, p, q) = then-parsed (limited_at 255 s at) _ l next e in
      let (rest, last, t, u) = then-parsed (many (limited_at 255 s) n m) _ l next q in
      let same : last ≡ next = cc in
      omega (arith, limited-forward 255 at p, many-forward n m t)

  uuid-forward : (at : ℕ) {l : List ℕ} {next : ℕ} → uuid_at s at ≡ parsed l next → at ≤ next
  unfolding uuid_at
  uuid-forward at e = many-forward 16 at e

  sign-forward : (z : ℤ) {m v next : ℕ} → not_negative z m ≡ parsed v next → m ≡ next
  sign-forward (pos n) e = cc
  sign-forward (negsuc n) e = never e

  natural-forward : (at : ℕ) {v next : ℕ} → natural_at s at ≡ parsed v next → at ≤ next
  unfolding natural_at signed_at
  natural-forward at {v} {next} e =
      let (z, m, p, q) = then-parsed (mapped meant_by (varlen_at s at)) not_negative v next e in
      let (sent, r, u) = mapped-parsed meant_by (varlen_at s at) z m p in
      let h = varlen-forward s at r in
      let same : m ≡ next = sign-forward z q in
      omega arith

  tag-forward : (at : ℕ) {t : List ℕ} {next : ℕ} → tag_at s at ≡ parsed t next → at ≤ next
  unfolding tag_at
  tag-forward at {t} {next} e =
      let (p, is) = judged-parsed is_tag bad_tag (and_then (varlen_at s at) (λ (n from : ℕ). bytes_at n s from)) t next e in
      let (n, m, q, r) = then-parsed (varlen_at s at) (λ (n from : ℕ). bytes_at n s from) t next p in
      let h = varlen-forward s at q in
      let b = bytes-parsed n s m t next r in
      omega arith

  value-forward : (k : Kind) (last id : ℕ) (f : Fields) (at : ℕ) {g : Fields} {next : ℕ} → at ≤ length s → value_at k last id s f at ≡ parsed g next → at ≤ next
  value-forward any_number last id f at {g} {next} h e =
      let (v, p, q) = mapped-parsed (with_number id f) (varlen_at s at) g next e in
      omega (arith, varlen-forward s at p)
  value-forward (up_to limit) last id f at {g} {next} h e =
      let (v, p, q) = mapped-parsed (with_number id f) (limited_at limit s at) g next e in
      limited-forward limit at p
  value-forward natural last id f at {g} {next} h e =
      let (v, p, q) = mapped-parsed (with_number id f) (natural_at s at) g next e in
      natural-forward at p
  value-forward uuid last id f at {g} {next} h e =
      let (v, p, q) = mapped-parsed (with_uuid f) (uuid_at s at) g next e in
      uuid-forward at p
  value-forward tag last id f at {g} {next} h e =
      let (v, p, q) = mapped-parsed (with_tag_bytes f) (tag_at s at) g next e in
      tag-forward at p
  value-forward unknown last id f at {g} {next} h e =
      pick-either (leb id last) e (λ _ p. never p) (λ _ p. let same : length s ≡ next = cc in omega arith)

  pub field-forward : (last : ℕ) (f : Fields) (at : ℕ) {g : Fields} {next : ℕ} → field_at last s f at ≡ parsed g next → at < next
  unfolding field_at
  field-forward last f at {g} {next} e =
      let (id, m, p, q) = then-parsed (varlen_at s at) _ g next e in
      let h = varlen-forward s at p in
      omega (arith, value-forward (kind_of id) last id f m h.1 q)

-- ---- all fields: the loop's invariant
pub record FieldsSoFar (last : ℕ) (s : List ℕ) (f : Fields) (at : ℕ) : Type 0 where
  pub bound : ℕ
  pub enough : length s - at ≤ bound
  pub is : fields_of last s ≡ fields_from bound last s f at

pub fields-start : (last : ℕ) (s : List ℕ) → FieldsSoFar last s no_fields 0
fields-start last s = record { bound = length s; enough = omega arith; is = refl }

module _ (last : ℕ) (s : List ℕ) (f : Fields) (at : ℕ) where
  one_more : (n : ℕ) → at < length s → fields_from (suc n) last s f at ≡ and_then (field_at last s f at) (λ more next. fields_from n last s more next)
  unfolding fields_from
  one_more n h = rw (lt-ltb at (length s) h)

  no_more : (n : ℕ) → length s ≤ at → fields_from n last s f at ≡ parsed f at
  unfolding fields_from
  no_more zero h = refl
  no_more (suc n) h = rw (le-ltb at (length s) h)

  module _ (so_far : FieldsSoFar last s f at) where
    pub fields-end : length s ≤ at → fields_of last s ≡ parsed f at
    fields-end h = so_far.is ∙ no_more so_far.bound h

    turn : at < length s
        → (n : ℕ) × (length s - at ≤ suc n) × (fields_of last s ≡ and_then (field_at last s f at) (λ more next. fields_from n last s more next))
    turn h = go so_far.bound so_far.enough so_far.is
      where
        go : (b : ℕ) → length s - at ≤ b → fields_of last s ≡ fields_from b last s f at
            → (n : ℕ) × (length s - at ≤ suc n) × (fields_of last s ≡ and_then (field_at last s f at) (λ more next. fields_from n last s more next))
        go zero k is = absurd (omega arith)
        go (suc n) k is = (n, k, is ∙ one_more n h)

    pub fields-next : at < length s → {g : Fields} {next : ℕ} → field_at last s f at ≡ parsed g next → FieldsSoFar last s g next
    fields-next h {g} {next} e =
        let (n, k, is) = turn h in
        record { bound = n; enough = omega (arith, field-forward s last f at e); is = is ∙ rw e }

    pub fields-stop : at < length s → {x : Refusal} → field_at last s f at ≡ refuse x → fields_of last s ≡ refuse x
    fields-stop h e =
        let (n, k, is) = turn h in
        is ∙ ap (λ (q : Parse Fields). and_then q (λ more next. fields_from n last s more next)) e
