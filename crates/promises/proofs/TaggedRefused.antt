-- What is wrong with a tagged event by the layouts is refused, with its number.
use Prim.Native.Nat.{ℕ, zero, suc, ◌+◌, ◌-◌, ◌*◌, ◌^◌, ◌≤◌, ◌<◌}
use mathlib.Core.Path.{◌≡◌, refl, sym, ap, ◌∙◌}
use mathlib.Core.List.{List, [], ◌∷◌, ◌++◌, append_assoc}
use mathlib.Core.Logic.{◌⊎◌, inl, inr}
use native.Mathlib.Nat.{add-zero}
use native.Mathlib.Omega.{arith}
use lib.ListN.{length, get_or, length-append, get_or-eq_default}
use borrow.Author.Tests.{le-leb, lt-leb}
use Rattle.misc.specs.declared.refusal.Refusal.{Refusal}
use Rattle.misc.specs.Refusal.{ended, too_large, negative, unknown_field, bad_tag, wrong_version, no_tag, small_payload}
use Rattle.misc.specs.Parse.{refuse, parsed, part}
use Rattle.misc.specs.Varlen.{trailing_ones, varlen_at}
use Rattle.misc.specs.Signed.{signed_at, natural_at}
use Rattle.misc.specs.Forms.{Form}
use Rattle.misc.proofs.ParseLaws.{bytes-here, bytes-gone}
use Rattle.misc.proofs.SignedLaws.{natural-odd}
use Rattle.misc.proofs.VarlenLaws.{varlen-past, varlen-cut}
use Rattle.misc.proofs.Places.{From, from_start, from-size, from-room, from_next, from-part, from_first}
use Rattle.misc.proofs.FormsRead.{ones-are, form-some, form-reads}
use Rattle.gtid_event_read.specs.declared.Fields.{Fields}
use Rattle.gtid_event_read.specs.Fields.{unknown, field_table, kind_of, no_fields, limited_at, uuid_at, tag_at, value_at, field_at, fields_of}
use Rattle.gtid_event_read.specs.Tagged.{payload_at, tagged}
use Rattle.gtid_event_read.proofs.FieldLaws.{FieldsSoFar, fields-start, fields-next, fields-stop}
use Rattle.gtid_event_read.proofs.TaggedLaws.{tagged-gone, tagged-other, tagged-here, version-here, payload-small, payload_cut}
use Rattle.promises.proofs.Stops.{Reached, AtValue}
use Rattle.promises.specs.TaggedLayout.{Items}
use Rattle.promises.specs.Faults.{CutForm, FieldsFront, ValueFault, FieldFault, TaggedFault}
use Rattle.promises.proofs.Forces.{Refuses, is-refused, same-refused, many-stops}
use Rattle.promises.proofs.TaggedSaid.{kept_in, kept_all, sent-at}
use Rattle.promises.proofs.TaggedReads.{items-read, value-reads, valued, fields_read}

-- ---- a field that is refused, behind those that were read

module _ (last : ℕ) (s : List ℕ) where
  -- what reading has come to is what the fields so far make of the whole
  so_far : {f : Fields} {at : ℕ} → Reached last s f at → FieldsSoFar last s f at
  so_far Reached.first = fields-start last s
  so_far (Reached.next {f = f} {at = at} before more read) = fields-next last s f at (so_far before) more read

  field-stops : {f : Fields} {at n : ℕ} → Reached last s f at → at < length s → Refuses (field_at last s f at) n → Refuses (fields_of last s) n
  field-stops {f} {at} here more refused = same-refused refused (λ r e. fields-stop last s f at (so_far here) more e)

  -- a value that is refused, whatever was read before it
  value-stops : {id from n : ℕ} → AtValue last s id from → ((f : Fields) → Refuses (value_at (kind_of id) last id s f from) n) → Refuses (fields_of last s) n
  value-stops {id} {from} v h = field-stops v.reached v.more (same-refused (h v.so_far) (λ r e. unfold field_at in rw (v.told, e)))

-- ---- what is wrong is refused

module _ (s : List ℕ) where
  -- an integer that the bytes end inside
  pub cut-ends : (at : ℕ) (l : List ℕ) → CutForm l → From s at l → varlen_at s at ≡ refuse ended
  cut-ends at l CutForm.nothing h = varlen-past s at (omega (arith, from-size s at [] h))
  cut-ends at l (CutForm.few t first more small ones few) h =
      let (is, inside) = from_first s at first more h in
      let count : t ≡ trailing_ones 8 (get_or s at 0) = sym (ap (trailing_ones 8) is ∙ ones-are 8 first t small ones) in
      varlen-cut s at t inside count (omega (arith, from-size s at (first ∷ more) h))
  cut-ends at l (CutForm.nine more few) h =
      let (is, inside) = from_first s at 0xFF more h in
      let count : 8 ≡ trailing_ones 8 (get_or s at 0) = rw is (unfold trailing_ones in refl) in
      varlen-cut s at 8 inside count (omega (arith, from-size s at (0xFF ∷ more) h))

  -- ---- values

  module _ (last : ℕ) (f : Fields) (at : ℕ) where
    number_cut : (id : ℕ) → id < 12 → (id ≡ 1 → ⊥) → varlen_at s at ≡ refuse ended → value_at (kind_of id) last id s f at ≡ refuse ended
    unfolding limited_at natural_at signed_at tag_at
    number_cut zero h n e = rw e
    number_cut (suc zero) h n e = absurd (n refl)
    number_cut (suc (suc zero)) h n e = rw e
    number_cut (suc (suc (suc zero))) h n e = rw e
    number_cut (suc (suc (suc (suc zero)))) h n e = rw e
    number_cut (suc (suc (suc (suc (suc zero))))) h n e = rw e
    number_cut (suc (suc (suc (suc (suc (suc zero)))))) h n e = rw e
    number_cut (suc (suc (suc (suc (suc (suc (suc zero))))))) h n e = rw e
    number_cut (suc (suc (suc (suc (suc (suc (suc (suc zero)))))))) h n e = rw e
    number_cut (suc (suc (suc (suc (suc (suc (suc (suc (suc zero))))))))) h n e = rw e
    number_cut (suc (suc (suc (suc (suc (suc (suc (suc (suc (suc zero)))))))))) h n e = rw e
    number_cut (suc (suc (suc (suc (suc (suc (suc (suc (suc (suc (suc zero))))))))))) h n e = rw e
    number_cut (suc (suc (suc (suc (suc (suc (suc (suc (suc (suc (suc (suc k)))))))))))) h n e = absurd (omega arith)

    -- a uuid's item behind those that are in order
    item_refused : (us done rest : List ℕ) (x : Refusal) → Items us done → length us < 16 → From s at (done ++ rest)
        → limited_at 255 s (at + length done) ≡ refuse x → value_at (kind_of 1) last 1 s f at ≡ refuse x
    unfolding uuid_at
    item_refused us done rest x items few h e = rw (many-stops (limited_at 255 s) (length us) 16 at few (items-read s us done items at rest h) e)

    bad-refused : (id : ℕ) (l : List ℕ) (n : ℕ) → ValueFault last id l n → From s at l → Refuses (value_at (kind_of id) last id s f at) n
    unfolding limited_at tag_at
    bad-refused id l n (ValueFault.cut_number known not-uuid cut) h = is-refused ended (number_cut id known not-uuid (cut-ends at l cut h))
    bad-refused id l n (ValueFault.cut_item {us = us} {done = done} {rest = rest} items few cut) h =
        is-refused ended (item_refused us done rest ended items few h (rw (cut-ends (at + length done) rest cut (from_next s at done rest h))))
    bad-refused id l n (ValueFault.cut_tag {n = k} {size = size} rest form few) h =
        let behind = from_next s at size rest h in
        is-refused ended (rw
        (form-reads s at k size rest form h, bytes-gone k s (at + length size) (omega (arith, from-size s (at + length size) rest behind))))
    bad-refused id l n (ValueFault.large_flags {v = v} {bs = bs} rest form over) h =
        is-refused too_large (rw (form-reads s at v bs rest form h, lt-leb v 255 over))
    bad-refused id l n (ValueFault.large_item {u = u} {us = us} {done = done} {bs = bs} rest items few form over) h =
        let behind = from_next s at done (bs ++ rest) h in
        is-refused too_large (item_refused us done (bs ++ rest) too_large items few h
        (rw (form-reads s (at + length done) u bs rest form behind, lt-leb u 255 over)))
    bad-refused id l n (ValueFault.large_version {v = v} {bs = bs} rest (inl is) form over) h =
        is-refused too_large (rw (is, form-reads s at v bs rest form h, lt-leb v (2 ^ 32 - 1) over))
    bad-refused id l n (ValueFault.large_version {v = v} {bs = bs} rest (inr is) form over) h =
        is-refused too_large (rw (is, form-reads s at v bs rest form h, lt-leb v (2 ^ 32 - 1) over))
    bad-refused id l n (ValueFault.negative k {bs = bs} rest which form) h =
        let minus : natural_at s at ≡ refuse negative = natural-odd s at (form-reads s at (k * 2 + 1) bs rest form h) (λ even. omega arith) in
        go which minus
      where
        go : (id ≡ 2) ⊎ ((id ≡ 4) ⊎ (id ≡ 5)) → natural_at s at ≡ refuse negative → Refuses (value_at (kind_of id) last id s f at) 3
        go (inl is) e = is-refused negative (rw (is, e))
        go (inr (inl is)) e = is-refused negative (rw (is, e))
        go (inr (inr is)) e = is-refused negative (rw (is, e))
    bad-refused id l n (ValueFault.unknown_id new low) h =
        let kind : kind_of id ≡ unknown = get_or-eq_default field_table unknown {n = id} new in
        is-refused unknown_field (rw (kind, le-leb id last low))
    bad-refused id l n (ValueFault.tag_rule t {size = size} rest form bad) h =
        let behind = from_next s at size (t ++ rest) h in
        let there : part s (at + length size) (length t) ≡ t = from-part s (at + length size) t rest behind (length t) refl in
        is-refused bad_tag (rw (
          form-reads s at (length t) size (t ++ rest) form h,
          bytes-here (length t) s (at + length size) (from-room s (at + length size) t rest behind),
          there,
          bad,
        ))

  -- ---- fields

  module _ (last : ℕ) where
    front-reached : (front : List ℕ) → FieldsFront front → (f : Fields) (at : ℕ) (rest : List ℕ) → From s at (front ++ rest) → Reached last s f at
        → (g : Fields) × Reached last s g (at + length front)
    front-reached front FieldsFront.none f at rest h here = (f, rw (add-zero at) here)
    front-reached front (FieldsFront.more {id = id} {x = x} {bs = bs} {value = value} {rest = others} form val fields) f at rest h here =
        let flat : From s at (bs ++ (value ++ (others ++ rest))) = simp append_assoc at h in
        let second = from_next s at bs (value ++ (others ++ rest)) flat in
        let third = from_next s (at + length bs) value (others ++ rest) second in
        let some = form-some form in
        let one = valued s last f at id (at + length bs) (form-reads s at id bs (value ++ (others ++ rest)) form flat)
        (value-reads s last f (at + length bs) id x value (others ++ rest) val second) in
        let inside : at < length s = omega (arith, from-room s at bs (value ++ (others ++ rest)) flat) in
        let (g, there) = front-reached others fields (kept_in f x) (at + length bs + length value) rest third (Reached.next here inside one) in
        let place : at + length bs + length value + length others ≡ at + length (bs ++ value ++ others) =
        omega (arith, length-append (bs ++ value) others, length-append bs value) in
        (g, rw place at there)

    fields-refused : (n : ℕ) (l : List ℕ) → FieldFault last l n → From s 0 l → Refuses (fields_of last s) n
    unfolding field_at
    fields-refused n l (FieldFault.cut_id {front = front} {rest = rest} fields some cut) h =
        let (g, here) = front-reached front fields no_fields 0 rest h Reached.first in
        let behind = from_next s 0 front rest h in
        let inside : 0 + length front < length s = omega (arith, from-size s (0 + length front) rest behind) in
        field-stops last s here inside (is-refused ended (rw (cut-ends (0 + length front) rest cut behind)))
    fields-refused n l (FieldFault.bad_value {id = id} {front = front} {bs = bs} {rest = rest} fields form bad) h =
        let (g, here) = front-reached front fields no_fields 0 (bs ++ rest) h Reached.first in
        let at = 0 + length front in
        let behind = from_next s 0 front (bs ++ rest) h in
        let value = from_next s at bs rest behind in
        let some = form-some form in
        let there : AtValue last s id (at + length bs) = record {
          so_far = g;
          at = at;
          reached = here;
          more = omega (arith, from-room s at bs rest behind);
          told = form-reads s at id bs rest form behind;
        } in
        value-stops last s there (λ f. bad-refused last f (at + length bs) id rest n bad value)

-- ---- a tagged event

module _ (s : List ℕ) where
  -- the envelope: where its parts stand, and what is read of them
  pub record Read (size last : ℕ) (a b rest : List ℕ) : Type 0 where
    pub inside : 1 ≤ length s
    pub two : get_or s 0 0 ≡ 2
    pub sized : varlen_at s 1 ≡ parsed size (1 + length a)
    pub told : varlen_at s (1 + length a) ≡ parsed last (1 + length a + length b)
    pub behind : From s (1 + length a + length b) rest

  pub read-envelope : (size last : ℕ) (a b rest : List ℕ) → s ≡ 2 ∷ (a ++ (b ++ rest)) → Form size a → Form last b → Read size last a b rest
  read-envelope size last a b rest whole size_is last_is =
      let zeroth : From s 0 (2 ∷ (a ++ (b ++ rest))) = record { is = whole; inside = omega arith } in
      let (two, some) = from_first s 0 2 (a ++ (b ++ rest)) zeroth in
      let first : From s 1 (a ++ (b ++ rest)) = from_next s 0 (2 ∷ []) (a ++ (b ++ rest)) zeroth in
      let second = from_next s 1 a (b ++ rest) first in
      record {
        inside = some;
        two = two;
        sized = form-reads s 1 size a (b ++ rest) size_is first;
        told = form-reads s (1 + length a) last b rest last_is second;
        behind = from_next s (1 + length a) b rest second;
      }

  -- the payload's fields
  pub payload : {size last : ℕ} {a b rest : List ℕ} → Read size last a b rest → tagged s ≡ payload_at s size last (1 + length a + length b)
  payload r = tagged-here s r.inside r.two r.sized r.told

pub tagged-refused : (s : List ℕ) (n : ℕ) → TaggedFault s n → Refuses (tagged s) n
unfolding tagged
tagged-refused s n TaggedFault.cut_version = is-refused ended (tagged-gone [] (omega arith))
tagged-refused s n (TaggedFault.cut_size {rest = rest} cut) =
    let first : From s 1 rest = from_next s 0 (2 ∷ []) rest (from_start s) in
    is-refused ended (rw (version-here s (omega arith) refl, cut-ends s 1 rest cut first))
tagged-refused s n (TaggedFault.cut_last {size = size} {a = a} {rest = rest} form cut) =
    let first : From s 1 (a ++ rest) = from_next s 0 (2 ∷ []) (a ++ rest) (from_start s) in
    is-refused ended (rw
    (version-here s (omega arith) refl, form-reads s 1 size a rest form first, cut-ends s (1 + length a) rest cut (from_next s 1 a rest first)))
tagged-refused s n (TaggedFault.cut_payload {size = size} {last = last} {a = a} {b = b} rest size_is last_is large over) =
    let r = read-envelope s size last a b rest refl size_is last_is in
    is-refused ended (payload s r ∙ payload_cut s size last (1 + length a + length b) (omega (arith, length-append a b)) over)
tagged-refused s n (TaggedFault.wrong_version other) = is-refused wrong_version (tagged-other s (omega arith) other)
tagged-refused s n (TaggedFault.small_payload {size = size} {last = last} {a = a} {b = b} rest size_is last_is small) =
    let r = read-envelope s size last a b rest refl size_is last_is in
    is-refused small_payload (payload s r ∙ payload-small s size last (1 + length a + length b) (omega (arith, length-append a b)))
tagged-refused s n (TaggedFault.in_fields {size = size} {last = last} {a = a} {b = b} {fields = fields} rest size_is last_is counts bad) =
    let r = read-envelope s size last a b (fields ++ rest) refl size_is last_is in
    let start = 1 + length a + length b in
    let sum : size ≡ start + length fields = omega (arith, length-append a (b ++ fields), length-append b fields) in
    let these : part s start (size - start) ≡ fields = from-part s start fields rest r.behind (size - start) (omega arith) in
    let room = from-room s start fields rest r.behind in
    same-refused (fields-refused fields last n fields bad (from_start fields)) (λ x e.
    payload s r ∙ rw (le-leb start size (omega arith), le-leb size (length s) (omega arith), these, e))
tagged-refused s n (TaggedFault.no_tag {size = size} {last = last} {a = a} {b = b} {fields = fields} {told = told} rest size_is last_is counts laid none) =
    let r = read-envelope s size last a b (fields ++ rest) refl size_is last_is in
    let start = 1 + length a + length b in
    let sum : size ≡ start + length fields = omega (arith, length-append a (b ++ fields), length-append b fields) in
    let these : part s start (size - start) ≡ fields = from-part s start fields rest r.behind (size - start) (omega arith) in
    let room = from-room s start fields rest r.behind in
    let read : fields_of last fields ≡ parsed (kept_all no_fields told) (length fields) =
    fields_read fields last told fields laid (length fields) no_fields 0 (omega arith) (from_start fields) in
    is-refused no_tag (payload s r ∙ rw (le-leb start size (omega arith), le-leb size (length s) (omega arith), these, read, sent-at told 3 (omega arith), none))
