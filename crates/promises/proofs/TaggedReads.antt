-- A tagged record that is laid out is read.
use Prim.Native.Nat.{ℕ, zero, suc, ◌+◌, ◌-◌, ◌*◌, ◌/◌, ◌≤◌, ◌<◌}
use mathlib.Core.Path.{◌≡◌, refl, sym, ap, ◌∙◌}
use mathlib.Core.Bool.{true, false}
use mathlib.Core.List.{List, [], ◌∷◌, ◌++◌, append_assoc}
use native.Mathlib.Nat.{add-zero}
use native.Mathlib.Omega.{arith}
use lib.ListN.{length, get_or, length-append, get_or-eq_default}
use borrow.Author.Tests.{lt-ltb, le-ltb, le-leb, lt-leb}
use Rattle.misc.specs.Parse.{parsed, many, part, mapped}
use Rattle.misc.specs.Varlen.{varlen_at}
use Rattle.misc.specs.Signed.{natural_at}
use Rattle.misc.specs.Forms.{Form}
use Rattle.misc.proofs.ParseLaws.{bytes-here}
use Rattle.misc.proofs.SignedLaws.{natural-even}
use Rattle.misc.proofs.Walk.{ahead, many-none, many-next}
use Rattle.misc.proofs.Places.{From, from_start, from-size, from-room, from_next, from-part, from_first}
use Rattle.misc.proofs.FormsRead.{form-some, form-reads}
use Rattle.packets.specs.Tag.{is_tag}
use Rattle.gtid_event_read.specs.Seen.{Seen}
use Rattle.gtid_event_read.specs.declared.Fields.{Fields}
use Rattle.gtid_event_read.specs.Fields.{unknown, field_table, kind_of, no_fields, with_uuid, limited_at, uuid_at, tag_at, value_at, field_at, fields_from, fields_of}
use Rattle.gtid_event_read.specs.Tagged.{tagged}
use Rattle.gtid_event_read.proofs.TaggedLaws.{tagged-here}
use Rattle.promises.specs.TaggedLayout.{Sent, Items, Value, FieldsLaid, sends, seen_in, TaggedLaid}
use Rattle.promises.proofs.TaggedSaid.{kept_in, kept_all, sent-at, seen-said}

module _ (s : List ℕ) where
  -- what stands behind two parts, one after the other
  pub from_second : (at : ℕ) (a b rest : List ℕ) → From s at (a ++ b ++ rest) → From s (at + length a) (b ++ rest)
  from_second at a b rest h = from_next s at a (b ++ rest) (rw append_assoc at h)

  -- ---- values

  limited-reads : (limit at v : ℕ) (bs rest : List ℕ) → Form v bs → v ≤ limit → From s at (bs ++ rest) → limited_at limit s at ≡ parsed v (at + length bs)
  unfolding limited_at
  limited-reads limit at v bs rest form low h = rw (form-reads s at v bs rest form h, le-leb v limit low)

  natural-reads : (at v : ℕ) (bs rest : List ℕ) → Form (v * 2) bs → From s at (bs ++ rest) → natural_at s at ≡ parsed v (at + length bs)
  natural-reads at v bs rest form h =
      let half : v * 2 / 2 ≡ v = omega arith in
      natural-even s at (form-reads s at (v * 2) bs rest form h) (omega arith) ∙ ap (λ (x : ℕ). parsed x (at + length bs)) half

  pub items-read : (us bs : List ℕ) → Items us bs → (at : ℕ) (rest : List ℕ) → From s at (bs ++ rest)
      → many (limited_at 255 s) (length us) at ≡ parsed us (at + length bs)
  items-read us bs Items.none at rest h = many-none (limited_at 255 s) at ∙ ap (parsed []) (sym (add-zero at))
  items-read us bs (Items.more {u = u} {us = others} {bs = first} {rest = second} form low items) at rest h =
      let behind = from_second at first second rest h in
      let one = limited-reads 255 at u first (second ++ rest) form low (rw append_assoc at h) in
      let end : at + length first + length second ≡ at + length (first ++ second) = omega (arith, length-append first second) in
      many-next (limited_at 255 s) (length others) at u (at + length first) one
      ∙ ap (ahead u) (items-read others second items (at + length first) rest behind)
      ∙ ap (parsed (u ∷ others)) end

  tag-reads : (at : ℕ) (t bs rest : List ℕ) → Form (length t) bs → is_tag t ≡ true → From s at (bs ++ t ++ rest) → tag_at s at ≡ parsed t (at + length (bs ++ t))
  unfolding tag_at
  tag-reads at t bs rest form good h =
      let behind = from_second at bs t rest h in
      let there : part s (at + length bs) (length t) ≡ t = from-part s (at + length bs) t rest behind (length t) refl in
      let end : at + length bs + length t ≡ at + length (bs ++ t) = omega (arith, length-append bs t) in
      rw (
        form-reads s at (length t) bs (t ++ rest) form (rw append_assoc at h),
        bytes-here (length t) s (at + length bs) (from-room s (at + length bs) t rest behind),
        there,
        good,
        end,
      )

  pub value-reads : (last : ℕ) (f : Fields) (at id : ℕ) (x : Sent) (bs rest : List ℕ) → Value id x bs → From s at (bs ++ rest)
      → value_at (kind_of id) last id s f at ≡ parsed (kept_in f x) (at + length bs)
  unfolding uuid_at
  value-reads last f at id x bs rest (Value.gtid_flags {v = v} form low) h = rw (limited-reads 255 at v bs rest form low h)
  value-reads last f at id x bs rest (Value.uuid {us = us} items size) h = ap (mapped (with_uuid f)) (rw size at (items-read us bs items at rest h))
  value-reads last f at id x bs rest (Value.gno {v = v} form) h = rw (natural-reads at v bs rest form h)
  value-reads last f at id x bs rest (Value.tag {t = t} {bs = size} form good) h = rw (tag-reads at t size rest form good h)
  value-reads last f at id x bs rest (Value.last_committed {v = v} form) h = rw (natural-reads at v bs rest form h)
  value-reads last f at id x bs rest (Value.sequence_number {v = v} form) h = rw (natural-reads at v bs rest form h)
  value-reads last f at id x bs rest (Value.immediate_commit_timestamp {v = v} form) h = rw (form-reads s at v bs rest form h)
  value-reads last f at id x bs rest (Value.original_commit_timestamp {v = v} form) h = rw (form-reads s at v bs rest form h)
  value-reads last f at id x bs rest (Value.transaction_length {v = v} form) h = rw (form-reads s at v bs rest form h)
  value-reads last f at id x bs rest (Value.immediate_server_version {v = v} form low) h = rw (limited-reads _ at v bs rest form low h)
  value-reads last f at id x bs rest (Value.original_server_version {v = v} form low) h = rw (limited-reads _ at v bs rest form low h)
  value-reads last f at id x bs rest (Value.commit_group_ticket {v = v} form) h = rw (form-reads s at v bs rest form h)

  -- ---- fields

  module _ (last : ℕ) where
    no_more : (n : ℕ) (f : Fields) (at : ℕ) → at ≡ length s → fields_from n last s f at ≡ parsed f (length s)
    unfolding fields_from
    no_more zero f at e = rw e
    no_more (suc n) f at e = rw (e, le-ltb (length s) (length s) (omega arith))

    one_more : (n : ℕ) (f : Fields) (at : ℕ) {g : Fields} {to : ℕ} → at < length s → field_at last s f at ≡ parsed g to
        → fields_from (suc n) last s f at ≡ fields_from n last s g to
    unfolding fields_from
    one_more n f at h e = rw (lt-ltb at (length s) h, e)

    skipped : (f : Fields) (at id to : ℕ) → varlen_at s at ≡ parsed id to → 12 ≤ id → last < id → field_at last s f at ≡ parsed f (length s)
    unfolding field_at
    skipped f at id to e new over =
        let kind : kind_of id ≡ unknown = get_or-eq_default field_table unknown {n = id} new in
        rw (e, kind, lt-leb id last over)

    pub valued : (f : Fields) (at id from : ℕ) {g : Fields} {to : ℕ} → varlen_at s at ≡ parsed id from → value_at (kind_of id) last id s f from ≡ parsed g to
        → field_at last s f at ≡ parsed g to
    unfolding field_at
    valued f at id from e v = rw (e, v)

    pub fields_read : (told : List Sent) (bs : List ℕ) → FieldsLaid last told bs → (n : ℕ) (f : Fields) (at : ℕ) → length bs ≤ n → From s at bs
        → fields_from n last s f at ≡ parsed (kept_all f told) (length s)
    fields_read told bs FieldsLaid.end n f at room h = no_more n f at (omega (arith, from-size s at [] h))
    fields_read told bs (FieldsLaid.ignored {bs = first} rest form new over) zero f at room h =
        absurd (omega (arith, form-some form, length-append first rest))
    fields_read told bs (FieldsLaid.ignored {id = id} {bs = first} rest form new over) (suc n) f at room h =
        let some = form-some form in
        let skip = skipped f at id (at + length first) (form-reads s at id first rest form h) new over in
        one_more n f at (omega (arith, from-room s at first rest h)) skip ∙ no_more n f (length s) refl
    fields_read told bs (FieldsLaid.field {bs = first} {value = value} {rest = rest} form val others) zero f at room h =
        absurd (omega (arith, form-some form, length-append (first ++ value) rest, length-append first value))
    fields_read told bs (FieldsLaid.field {id = id} {x = x} {told = more} {bs = first} {value = value} {rest = rest} form val others) (suc n) f at room h =
        let some = form-some form in
        let size : length (first ++ value) ≡ length first + length value = length-append first value in
        let whole : length (first ++ value ++ rest) ≡ length (first ++ value) + length rest = length-append (first ++ value) rest in
        let from-id : From s at (first ++ (value ++ rest)) = rw append_assoc at h in
        let behind = from_second at first value rest h in
        let third = from_next s (at + length first) value rest behind in
        let one = valued f at id (at + length first) (form-reads s at id first (value ++ rest) form from-id)
        (value-reads last f (at + length first) id x value rest val behind) in
        one_more n f at (omega (arith, from-room s at first (value ++ rest) from-id)) one
        ∙ fields_read more rest others n (kept_in f x) (at + length first + length value) (omega arith) third

-- ---- the record

pub tagged-reads : (s : List ℕ) (x : Seen) (used : ℕ) → TaggedLaid s x used → tagged s ≡ parsed x used
tagged-reads s x used laid =
    let last = laid.last in
    let a = laid.size_bytes in
    let b = laid.last_bytes in
    let c = laid.fields in
    let d = laid.unread in
    go used last a b c d laid.told (laid.whole ∙ simp append_assoc) laid.size_is laid.last_is
    (laid.counts ∙ simp length-append (omega arith)) laid.fields_are laid.tagged ∙ rw laid.is
  where
    go : (size last : ℕ) (a b c d : List ℕ) (told : List Sent) → s ≡ (2 ∷ []) ++ (a ++ (b ++ (c ++ d))) → Form size a → Form last b
        → size ≡ 1 + length a + length b + length c → FieldsLaid last told c → sends 3 told ≡ true
        → tagged s ≡ parsed (seen_in told) size
    go size last a b c d told whole size_is last_is counts fields_are there =
        let zeroth : From s 0 ((2 ∷ []) ++ (a ++ (b ++ (c ++ d)))) = record { is = whole; inside = omega arith } in
        let (two, some) = from_first s 0 2 (a ++ (b ++ (c ++ d))) zeroth in
        let first : From s 1 (a ++ (b ++ (c ++ d))) = from_next s 0 (2 ∷ []) (a ++ (b ++ (c ++ d))) zeroth in
        let second = from_next s 1 a (b ++ (c ++ d)) first in
        let third = from_next s (1 + length a) b (c ++ d) second in
        let start = 1 + length a + length b in
        let these : part s start (size - start) ≡ c = from-part s start c d third (size - start) (omega arith) in
        let room : start + length c ≤ length s = from-room s start c d third in
        let read : fields_of last c ≡ parsed (kept_all no_fields told) (length c) =
        fields_read c last told c fields_are (length c) no_fields 0 (omega arith) (from_start c) in
        let has_tag : get_or (kept_all no_fields told).present 3 false ≡ true = sent-at told 3 (omega arith) ∙ there in
        tagged-here s some two (form-reads s 1 size a (b ++ (c ++ d)) size_is first) (form-reads s (1 + length a) last b (c ++ d) last_is second)
        ∙ rw (le-leb start size (omega arith), le-leb size (length s) (omega arith), these, read, has_tag)
        (ap (λ (x : Seen). parsed x size) (seen-said told))
