-- What is refused of a tagged event is wrong by the layouts: from the places that reading comes to.
use Prim.Native.Nat.{ℕ, zero, suc, ◌+◌, ◌-◌, ◌*◌, ◌^◌, ◌≤◌, ◌<◌}
use mathlib.Core.Path.{◌≡◌, refl, sym, ap, subst, ◌∙◌}
use mathlib.Core.Bool.{false}
use mathlib.Core.List.{List, [], ◌∷◌, ◌++◌, append_assoc, append-nil}
use mathlib.Core.Logic.{◌⊎◌, inl, inr}
use native.Mathlib.Omega.{arith}
use lib.IntN.{negsuc}
use lib.ListN.{length, drop, get_or, length-append, length-drop, get_or-eq_default, drop_of_length-le}
use lib.Seq.{drop-cons}
use Rattle.misc.specs.Parse.{Bytes, parsed, part}
use Rattle.misc.specs.Varlen.{trailing_ones, varlen_at}
use Rattle.misc.specs.Signed.{sent_as, meant_by, signed_at}
use Rattle.misc.specs.Forms.{Form}
use Rattle.misc.proofs.ParseLaws.{split, mapped-parsed, part_length}
use Rattle.misc.proofs.Bounds.{part_bytes}
use Rattle.misc.proofs.SignedLaws.{sent-meant}
use Rattle.misc.proofs.VarlenLaws.{trailing_ones-le}
use Rattle.misc.proofs.Forward.{varlen-forward}
use Rattle.misc.proofs.Places.{part-from, Found, found-size}
use Rattle.misc.proofs.Accepted.{ones_low, ones-full, form-read}
use Rattle.gtid_event_read.specs.declared.Fields.{Fields}
use Rattle.gtid_event_read.specs.Fields.{Kind, any_number, up_to, natural, uuid, tag, unknown, field_table, kind_of, no_fields}
use Rattle.promises.proofs.Stops.{Item, varlen, Ends, Reached, AtValue, Wanted, FieldStop, Envelope, TaggedStop}
use Rattle.promises.specs.TaggedLayout.{Sent, Value, sends}
use Rattle.promises.specs.Faults.{CutForm, FieldsFront, ValueFault, FieldFault, TaggedFault}
use Rattle.promises.proofs.TaggedSaid.{sent-at}
use Rattle.promises.proofs.TaggedAccepted.{split-at-size, items-found, Next, field-parts, fields-found}

-- ---- the table of kinds, read backwards
abbrev Of : Kind → ℕ → Type 0
Of any_number id = Unit {0}
Of (up_to limit) id = ((id ≡ 0) × (limit ≡ 255)) ⊎ (((id ≡ 9) ⊎ (id ≡ 10)) × (limit ≡ 2 ^ 32 - 1))
Of natural id = (id ≡ 2) ⊎ ((id ≡ 4) ⊎ (id ≡ 5))
Of uuid id = Unit {0}
Of tag id = Unit {0}
Of unknown id = 12 ≤ id

of-id : (id : ℕ) → Of (kind_of id) id
of-id zero = inl (refl, refl)
of-id (suc zero) = tt
of-id (suc (suc zero)) = inl refl
of-id (suc (suc (suc zero))) = tt
of-id (suc (suc (suc (suc zero)))) = inr (inl refl)
of-id (suc (suc (suc (suc (suc zero))))) = inr (inr refl)
of-id (suc (suc (suc (suc (suc (suc zero)))))) = tt
of-id (suc (suc (suc (suc (suc (suc (suc zero))))))) = tt
of-id (suc (suc (suc (suc (suc (suc (suc (suc zero)))))))) = tt
of-id (suc (suc (suc (suc (suc (suc (suc (suc (suc zero))))))))) = inr (inl refl, refl)
of-id (suc (suc (suc (suc (suc (suc (suc (suc (suc (suc zero)))))))))) = inr (inr refl, refl)
of-id (suc (suc (suc (suc (suc (suc (suc (suc (suc (suc (suc zero))))))))))) = tt
of-id (suc (suc (suc (suc (suc (suc (suc (suc (suc (suc (suc (suc n)))))))))))) = omega arith

of-kind : (id : ℕ) (k : Kind) → kind_of id ≡ k → Of k id
of-kind id k e = rw e at (of-id id)

-- another field behind fields
front-more : {front bs value : List ℕ} {id : ℕ} {x : Sent} → FieldsFront front → Form id bs → Value id x value → FieldsFront (front ++ (bs ++ value))
front-more {bs = bs} {value = value} FieldsFront.none form val = rw append-nil at (FieldsFront.more form val FieldsFront.none)
front-more {bs = bs} {value = value} (FieldsFront.more {bs = a} {value = v} {rest = rest} f w others) form val =
    rw append_assoc (FieldsFront.more f w (front-more others form val))

-- a negative number as it is sent
pub signed_sent : (s : List ℕ) (at n to : ℕ) → signed_at s at ≡ parsed (negsuc n) to → varlen_at s at ≡ parsed (n * 2 + 1) to
unfolding signed_at sent_as
signed_sent s at n to e =
    let (sent, read, is) = mapped-parsed meant_by (varlen_at s at) (negsuc n) to e in
    let same : n * 2 + 1 ≡ sent = ap sent_as is ∙ sent-meant sent in
    read ∙ rw same

module _ (s : List ℕ) (are : Bytes s) where
  -- an integer that the bytes end inside
  pub cut-form : (at : ℕ) → Ends varlen s at → CutForm (drop at s)
  cut-form at h = split (length s) at (λ past. rw (drop_of_length-le s {i = at} past) CutForm.nothing) (λ inside.
      rw (drop-cons s at 0 inside) (go (get_or s at 0) (trailing_ones 8 (get_or s at 0)) refl (are at) (rw length-drop (omega arith))))
    where
      go : (b t : ℕ) → t ≡ trailing_ones 8 b → b < 256 → length (drop (suc at) s) < t → CutForm (b ∷ drop (suc at) s)
      go b t ones low few = split 8 t
          (λ big.
          let eight : t ≡ 8 = omega (arith, trailing_ones-le 8 b) in
          let full = ones-full 8 b (sym eight ∙ ones) in
          let lead : b ≡ 0xFF = omega arith in
          rw lead (CutForm.nine (drop (suc at) s) (omega arith)))
          (λ small. CutForm.few t b (drop (suc at) s) small (ones_low 8 b t ones small) few)

  module _ (last : ℕ) where
    -- the fields up to a place that reading comes to
    front_of : {f : Fields} {at : ℕ} → Reached last s f at → at < length s → Found FieldsFront s 0 at
    front_of Reached.first h = record { bytes = []; holds = FieldsFront.none; is = refl; inside = omega arith }
    front_of (Reached.next {f = f} {g = g} {at = at} {to = to} before more read) h =
        let (id, from, form, what) = field-parts s are last f at g to read in
        go id from form what (front_of before more)
      where
        go : (id from : ℕ) → Found (Form id) s at from → Next s are last id f from g to → Found FieldsFront s 0 at → Found FieldsFront s 0 to
        go id from form (Next.value x found is) front =
            record {
              bytes = front.bytes ++ (form.bytes ++ found.bytes);
              holds = front-more front.holds form.holds found.holds;
              is = front.is ∙ rw (form.is, found.is) (simp append_assoc);
              inside = found.inside;
            }
        go id from form (Next.over new above is end) front = absurd (omega arith)

    at_value : {id from n : ℕ} → AtValue last s id from → ValueFault last id (drop from s) n → FieldFault last s n
    at_value {id} {from} {n} v bad =
        let front = front_of v.reached v.more in
        let form = form-read s are v.at id from v.told in
        subst (λ (l : List ℕ). FieldFault last l n) (sym (front.is ∙ ap (λ (l : List ℕ). front.bytes ++ l) form.is))
        (FieldFault.bad_value front.holds form.holds bad)

    -- what is wrong behind a number
    after-number : (id from v to n : ℕ) → varlen_at s from ≡ parsed v to → ((bs rest : List ℕ) → Form v bs → ValueFault last id (bs ++ rest) n)
        → ValueFault last id (drop from s) n
    after-number id from v to n told mk =
        let form = form-read s are from v to told in
        rw form.is (mk form.bytes (drop to s) form.holds)

    cut-faulty : (at : ℕ) (i : Item) → Wanted last s at i → Ends i s at → FieldFault last s 1
    cut-faulty at i (Wanted.field_id here more) over =
        let front = front_of here more in
        let some : 1 ≤ length (drop at s) = rw length-drop (omega arith) in
        subst (λ (l : List ℕ). FieldFault last l 1) (sym front.is) (FieldFault.cut_id front.holds some (cut-form at over))
    cut-faulty at i (Wanted.number {id = id} v not-uuid known) over =
        at_value v (ValueFault.cut_number
        (split 12 id (λ big. absurd (known (get_or-eq_default field_table unknown {n = id} big))) (λ small. small))
        (λ one. not-uuid (rw one))
        (cut-form at over))
    cut-faulty at i (Wanted.uuid_item {i = k} item) over =
        let (us, passed) = item.passed in
        let start : item.from ≤ length s = (varlen-forward s item.value.at item.value.told).1 in
        let (size, items) = items-found s are k item.from us at start passed in
        let few : length us < 16 = omega (arith, item.below) in
        at_value item.value (rw items.is (ValueFault.cut_item items.holds few (cut-form at over)))
    cut-faulty at i (Wanted.tag_bytes {from = from} {n = n} v told) over =
        let few : length (drop at s) < n = rw length-drop (omega (arith, varlen-forward s from told)) in
        let form = form-read s are from n at told in
        at_value v (rw form.is (ValueFault.cut_tag (drop at s) form.holds few))

    pub fields-faulty : {n : ℕ} → FieldStop last s n → FieldFault last s n
    fields-faulty (FieldStop.cut at i wanted over) = cut-faulty at i wanted over
    fields-faulty (FieldStop.large {id = id} {from = from} {limit = limit} {v = v} {to = to} here is told over) =
        at_value here (after-number id from v to 2 told (λ bs rest form. go bs rest form (of-kind id (up_to limit) is)))
      where
        go : (bs rest : List ℕ) → Form v bs → Of (up_to limit) id → ValueFault last id (bs ++ rest) 2
        go bs rest form (inl (flags, low)) = rw flags (ValueFault.large_flags rest form (rw low at over))
        go bs rest form (inr (version, low)) = ValueFault.large_version rest version form (rw low at over)
    fields-faulty (FieldStop.large_item {i = k} {at = at} {v = v} {to = to} item told over) =
        let (us, passed) = item.passed in
        let start : item.from ≤ length s = (varlen-forward s item.value.at item.value.told).1 in
        let (size, items) = items-found s are k item.from us at start passed in
        let few : length us < 16 = omega (arith, item.below) in
        let form = form-read s are at v to told in
        at_value item.value (rw (items.is, form.is) (ValueFault.large_item (drop to s) items.holds few form.holds over))
    fields-faulty (FieldStop.negative {id = id} {from = from} {n = n} {to = to} here is told) =
        at_value here (after-number id from (n * 2 + 1) to 3 (signed_sent s from n to told)
        (λ bs rest form. ValueFault.negative n rest (of-kind id natural is) form))
    fields-faulty (FieldStop.unknown_id {id = id} here is low) = at_value here (ValueFault.unknown_id (of-kind id unknown is) low)
    fields-faulty (FieldStop.tag_rule {from = from} {n = n} {to = to} here told room bad) =
        let form = form-read s are from n to told in
        let size : length (part s to n) ≡ n = part_length n s to room in
        let counted : Form (length (part s to n)) form.bytes = rw size form.holds in
        at_value here (rw (form.is, part-from s to n) (ValueFault.tag_rule (part s to n) (drop (to + n) s) counted bad))

-- ---- a tagged event

module _ (s : List ℕ) (are : Bytes s) where
  two-first : 1 ≤ length s → get_or s 0 0 ≡ 2 → s ≡ 2 ∷ drop 1 s
  two-first inside two = drop-cons s 0 0 inside ∙ ap (λ (b : ℕ). b ∷ drop 1 s) two

  -- the envelope's bytes
  record Parts (size last start : ℕ) : Type 0 where
    a : List ℕ
    b : List ℕ
    size_is : Form size a
    last_is : Form last b
    whole : s ≡ 2 ∷ (a ++ (b ++ drop start s))
    place : start ≡ length (2 ∷ (a ++ b))

  parts : {size last start : ℕ} → Envelope s size last start → Parts size last start
  parts {size} {last} {start} v =
      let x = form-read s are 1 size v.from v.sized in
      let y = form-read s are v.from last start v.told in
      let some : 1 ≤ length s = omega (arith, varlen-forward s 1 v.sized) in
      record {
        a = x.bytes;
        b = y.bytes;
        size_is = x.holds;
        last_is = y.holds;
        whole = two-first some v.version ∙ ap (λ (l : List ℕ). 2 ∷ l) (x.is ∙ ap (λ (l : List ℕ). x.bytes ++ l) y.is);
        place = omega (arith, found-size s x some, found-size s y x.inside, length-append x.bytes y.bytes);
      }

  counted : {size last start : ℕ} (p : Parts size last start) → start ≤ size → size ≤ length s
      → size ≡ length (2 ∷ (p.a ++ (p.b ++ part s start (size - start))))
  counted {size} {last} {start} p large here =
      let fields = part s start (size - start) in
      let long : length fields ≡ size - start = part_length (size - start) s start (omega arith) in
      omega (arith, p.place, length-append p.a p.b, length-append p.a (p.b ++ fields), length-append p.b fields)

  pub tagged-faulty : {n : ℕ} → TaggedStop s n → TaggedFault s n
  tagged-faulty (TaggedStop.cut_version none) =
      let empty : s ≡ [] = drop_of_length-le s {i = 0} (omega arith) in
      rw empty TaggedFault.cut_version
  tagged-faulty (TaggedStop.cut_size inside two over) =
      subst (λ (l : List ℕ). TaggedFault l 1) (sym (two-first inside two)) (TaggedFault.cut_size (cut-form s are 1 over))
  tagged-faulty (TaggedStop.cut_last {size = size} {from = from} two sized over) =
      let x = form-read s are 1 size from sized in
      let some : 1 ≤ length s = omega (arith, varlen-forward s 1 sized) in
      subst (λ (l : List ℕ). TaggedFault l 1) (sym (two-first some two ∙ ap (λ (l : List ℕ). 2 ∷ l) x.is))
      (TaggedFault.cut_last x.holds (cut-form s are from over))
  tagged-faulty (TaggedStop.cut_payload {size = size} {start = start} v large over) =
      let p = parts v in
      let long : length (2 ∷ (p.a ++ (p.b ++ drop start s))) < size = subst (λ (l : List ℕ). length l < size) p.whole over in
      subst (λ (l : List ℕ). TaggedFault l 1) (sym p.whole) (TaggedFault.cut_payload (drop start s) p.size_is p.last_is (omega (arith, p.place)) long)
  tagged-faulty (TaggedStop.wrong_version inside other) =
      subst (λ (l : List ℕ). TaggedFault l 4) (sym (drop-cons s 0 0 inside)) (TaggedFault.wrong_version other)
  tagged-faulty (TaggedStop.small_payload {start = start} v small) =
      let p = parts v in
      subst (λ (l : List ℕ). TaggedFault l 9) (sym p.whole) (TaggedFault.small_payload (drop start s) p.size_is p.last_is (omega (arith, p.place)))
  tagged-faulty (TaggedStop.in_fields {size = size} {last = last} {start = start} {n = n} v large here fault) =
      let p = parts v in
      let bad = fields-faulty (part s start (size - start)) (part_bytes s start (size - start) are) last fault in
      subst (λ (l : List ℕ). TaggedFault l n)
      (sym (p.whole ∙ ap (λ (l : List ℕ). 2 ∷ (p.a ++ (p.b ++ l))) (split-at-size s are start size large)))
      (TaggedFault.in_fields (drop size s) p.size_is p.last_is (counted p large here) bad)
  tagged-faulty (TaggedStop.no_tag {size = size} {last = last} {start = start} {at = at} {f = f} v large here read none) =
      let p = parts v in
      let t = part s start (size - start) in
      let (told, laid, kept) = fields-found t (part_bytes s start (size - start) are) last (length t) no_fields 0 f at (omega arith) read in
      let no : sends 3 told ≡ false = sym (sent-at told 3 (omega arith)) ∙ ap (λ (y : Fields). get_or y.present 3 false) (sym kept) ∙ none in
      subst (λ (l : List ℕ). TaggedFault l 7)
      (sym (p.whole ∙ ap (λ (l : List ℕ). 2 ∷ (p.a ++ (p.b ++ l))) (split-at-size s are start size large)))
      (TaggedFault.no_tag (drop size s) p.size_is p.last_is (counted p large here) laid no)
