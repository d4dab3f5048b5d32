-- A tagged record that is read is laid out.
use Prim.Native.Nat.{ℕ, zero, suc, ◌+◌, ◌-◌, ◌*◌, ◌^◌, ◌≤◌, ◌<◌}
use mathlib.Core.Path.{◌≡◌, refl, sym, ap, ◌∙◌}
use mathlib.Core.Bool.{true, false}
use mathlib.Core.List.{List, [], ◌∷◌, ◌++◌, append_assoc}
use native.Mathlib.Omega.{arith}
use lib.Dec.{ltb, leb}
use lib.IntN.{ℤ, pos, negsuc}
use lib.ListN.{length, drop, get_or, length-append, drop_of_length-le}
use lib.Seq.{drop-cons}
use borrow.Author.Tests.{ltb-true, ltb-false, leb-false}
use Rattle.misc.specs.Refusal.{bad_tag}
use Rattle.misc.specs.Parse.{Bytes, parsed, many, part, mapped, bytes_at, byte_at}
use Rattle.misc.specs.Varlen.{varlen_at}
use Rattle.misc.specs.Signed.{sent_as, meant_by, signed_at, not_negative, natural_at}
use Rattle.misc.specs.Forms.{Form}
use Rattle.misc.proofs.ParseLaws.{never, pick-either, then-parsed, mapped-parsed, judged-parsed, bytes-parsed, byte-parsed, part_length}
use Rattle.misc.proofs.Bounds.{part_bytes}
use Rattle.misc.proofs.SignedLaws.{sent-meant}
use Rattle.misc.proofs.Places.{part-from, Found, found_as, found-both, found-size}
use Rattle.misc.proofs.Accepted.{form-read}
use Rattle.packets.specs.Tag.{is_tag}
use Rattle.gtid_event_read.specs.Seen.{Seen}
use Rattle.gtid_event_read.specs.declared.Fields.{Fields}
use Rattle.gtid_event_read.specs.Fields.{kind_of, no_fields, with_number, with_uuid, with_tag_bytes, limited_at, uuid_at, tag_at, value_at, field_at, fields_from}
use Rattle.gtid_event_read.specs.Tagged.{seen_of, tagged}
use Rattle.gtid_event_read.proofs.FieldLaws.{limited-parsed, field-forward}
use Rattle.gtid_event_read.proofs.TaggedLaws.{tagged-parsed}
use Rattle.promises.specs.TaggedLayout.{Sent, number, the_uuid, the_tag, Items, Value, FieldsLaid, TaggedLaid}
use Rattle.promises.proofs.TaggedSaid.{kept_in, kept_all, sent-at, seen-said}

module _ (s : List ℕ) (are : Bytes s) where
  -- ---- values

  -- what follows an id: a value of its field; or the id is unknown and above the last non-ignorable one, and reading goes to the end
  pub data Next (last id : ℕ) (f : Fields) (from : ℕ) (g : Fields) (next : ℕ) : Type 0 where
    value : (x : Sent) → Found (Value id x) s from next → g ≡ kept_in f x → Next last id f from g next
    over : 12 ≤ id → last < id → g ≡ f → next ≡ length s → Next last id f from g next

  natural-sent : (at v next : ℕ) → natural_at s at ≡ parsed v next → varlen_at s at ≡ parsed (v * 2) next
  unfolding natural_at signed_at sent_as
  natural-sent at v next e =
      let (z, m, p, q) = then-parsed (mapped meant_by (varlen_at s at)) not_negative v next e in
      let (sent, r, u) = mapped-parsed meant_by (varlen_at s at) z m p in
      go z m sent q r u
    where
      go : (z : ℤ) (m sent : ℕ) → not_negative z m ≡ parsed v next → varlen_at s at ≡ parsed sent m → z ≡ meant_by sent → varlen_at s at ≡ parsed (v * 2) next
      go (pos n) m sent q r u =
          let value : n ≡ v = cc in
          let place : m ≡ next = cc in
          let twice : n * 2 ≡ sent = ap sent_as u ∙ sent-meant sent in
          r ∙ rw (← twice, value, place)
      go (negsuc n) m sent q r u = never q

  pub items-found : (n at : ℕ) (us : List ℕ) (next : ℕ) → at ≤ length s → many (limited_at 255 s) n at ≡ parsed us next
      → (length us ≡ n) × Found (Items us) s at next
  unfolding many
  items-found zero at us next h e =
      let none : [] ≡ us = cc in
      let place : at ≡ next = cc in
      rw (← none, ← place) (refl, record { bytes = []; holds = Items.none; is = refl; inside = h })
  items-found (suc n) at us next h e =
      let (u, m, p, q) = then-parsed (limited_at 255 s at) _ us next e in
      let (rest, last, r, t) = then-parsed (many (limited_at 255 s) n m) _ us next q in
      let (read, low) = limited-parsed 255 s at u m p in
      let one = form-read s are at u m read in
      go u m rest last one low (items-found n m rest last one.inside r) (cc) (cc)
    where
      go : (u m : ℕ) (rest : List ℕ) (last : ℕ) → Found (Form u) s at m → u ≤ 255 → (length rest ≡ n) × Found (Items rest) s m last → u ∷ rest ≡ us
          → last ≡ next
          → (length us ≡ suc n) × Found (Items us) s at next
      go u m rest last one low (size, others) list place =
          rw (← list, ← place) (ap suc size, found-both s (λ a b form items. Items.more form low items) one others)

  tag-found : (at : ℕ) (t : List ℕ) (next : ℕ) → tag_at s at ≡ parsed t next → Found (Value 3 (the_tag t)) s at next
  unfolding tag_at
  tag-found at t next e =
      let (p, good) = judged-parsed is_tag bad_tag _ t next e in
      let (n, m, size, whole) = then-parsed (varlen_at s at) (λ n from. bytes_at n s from) t next p in
      go n m size whole good
    where
      go : (n m : ℕ) → varlen_at s at ≡ parsed n m → bytes_at n s m ≡ parsed t next → is_tag t ≡ true → Found (Value 3 (the_tag t)) s at next
      go n m size whole good =
          let (room, these, end) = bytes-parsed n s m t next whole in
          let long : length t ≡ n = ap length (sym these) ∙ part_length n s m room in
          let form = form-read s are at n m size in
          let behind : Found (λ bs. bs ≡ t) s m next = record { bytes = t; holds = refl; is = part-from s m n ∙ rw (these, end); inside = omega arith } in
          found-both s (λ a b f is. rw is (Value.tag {t = t} {bs = a} (rw long f) good)) form behind

  module _ (last : ℕ) (f : Fields) (from : ℕ) (g : Fields) (next : ℕ) where
    plain-found : (id : ℕ) → ((v : ℕ) (bs : List ℕ) → Form v bs → Value id (number id v) bs) → mapped (with_number id f) (varlen_at s from) ≡ parsed g next
        → Next last id f from g next
    plain-found id mk e =
        let (v, p, q) = mapped-parsed (with_number id f) (varlen_at s from) g next e in
        value (number id v) (found_as s (mk v) (form-read s are from v next p)) q

    limited-found : (id limit : ℕ) → ((v : ℕ) (bs : List ℕ) → Form v bs → v ≤ limit → Value id (number id v) bs)
        → mapped (with_number id f) (limited_at limit s from) ≡ parsed g next → Next last id f from g next
    limited-found id limit mk e =
        let (v, p, q) = mapped-parsed (with_number id f) (limited_at limit s from) g next e in
        let (read, low) = limited-parsed limit s from v next p in
        value (number id v) (found_as s (λ bs form. mk v bs form low) (form-read s are from v next read)) q

    natural-found : (id : ℕ) → ((v : ℕ) (bs : List ℕ) → Form (v * 2) bs → Value id (number id v) bs)
        → mapped (with_number id f) (natural_at s from) ≡ parsed g next
        → Next last id f from g next
    natural-found id mk e =
        let (v, p, q) = mapped-parsed (with_number id f) (natural_at s from) g next e in
        value (number id v) (found_as s (mk v) (form-read s are from (v * 2) next (natural-sent from v next p))) q

    next-found : (id : ℕ) → from ≤ length s → value_at (kind_of id) last id s f from ≡ parsed g next → Next last id f from g next
    unfolding uuid_at
    next-found zero h e = limited-found 0 255 (λ v bs. Value.gtid_flags) e
    next-found (suc zero) h e =
        let (us, p, q) = mapped-parsed (with_uuid f) (uuid_at s from) g next e in
        let (size, items) = items-found 16 from us next h p in
        value (the_uuid us) (found_as s (λ bs x. Value.uuid x size) items) q
    next-found (suc (suc zero)) h e = natural-found 2 (λ v bs. Value.gno) e
    next-found (suc (suc (suc zero))) h e =
        let (t, p, q) = mapped-parsed (with_tag_bytes f) (tag_at s from) g next e in
        value (the_tag t) (tag-found from t next p) q
    next-found (suc (suc (suc (suc zero)))) h e = natural-found 4 (λ v bs. Value.last_committed) e
    next-found (suc (suc (suc (suc (suc zero))))) h e = natural-found 5 (λ v bs. Value.sequence_number) e
    next-found (suc (suc (suc (suc (suc (suc zero)))))) h e = plain-found 6 (λ v bs. Value.immediate_commit_timestamp) e
    next-found (suc (suc (suc (suc (suc (suc (suc zero))))))) h e = plain-found 7 (λ v bs. Value.original_commit_timestamp) e
    next-found (suc (suc (suc (suc (suc (suc (suc (suc zero)))))))) h e = plain-found 8 (λ v bs. Value.transaction_length) e
    next-found (suc (suc (suc (suc (suc (suc (suc (suc (suc zero))))))))) h e = limited-found 9 (2 ^ 32 - 1) (λ v bs. Value.immediate_server_version) e
    next-found (suc (suc (suc (suc (suc (suc (suc (suc (suc (suc zero)))))))))) h e = limited-found 10 (2 ^ 32 - 1) (λ v bs. Value.original_server_version) e
    next-found (suc (suc (suc (suc (suc (suc (suc (suc (suc (suc (suc zero))))))))))) h e = plain-found 11 (λ v bs. Value.commit_group_ticket) e
    next-found (suc (suc (suc (suc (suc (suc (suc (suc (suc (suc (suc (suc n)))))))))))) h e =
        let id = suc (suc (suc (suc (suc (suc (suc (suc (suc (suc (suc (suc n))))))))))) in
        pick-either (leb id last) e (λ _ p. never p) (λ high p. over (omega arith) (leb-false id last high) (cc) (cc))

  -- ---- fields

  module _ (last : ℕ) where
    pub field-parts : (f : Fields) (at : ℕ) (g : Fields) (next : ℕ) → field_at last s f at ≡ parsed g next
        → (id : ℕ) × (from : ℕ) × Found (Form id) s at from × Next last id f from g next
    unfolding field_at
    field-parts f at g next e =
        let (id, from, p, q) = then-parsed (varlen_at s at) _ g next e in
        let form = form-read s are at id from p in
        (id, from, form, next-found last f from g next id form.inside q)

    nothing_left : (f : Fields) (at : ℕ) (g : Fields) → length s ≤ at → f ≡ g → (told : List Sent) × FieldsLaid last told (drop at s) × (g ≡ kept_all f told)
    nothing_left f at g h e =
        let none : drop at s ≡ [] = drop_of_length-le s {i = at} h in
        ([], rw none FieldsLaid.end, sym e)

    at-end : (n : ℕ) (f : Fields) (g : Fields) (to : ℕ) → fields_from n last s f (length s) ≡ parsed g to → f ≡ g
    unfolding fields_from
    at-end zero f g to e = cc
    at-end (suc n) f g to e =
        pick-either (ltb (length s) (length s)) e (λ less _. absurd (omega (arith, ltb-true (length s) (length s) less))) (λ _ p. cc)

    pub fields-found : (n : ℕ) (f : Fields) (at : ℕ) (g : Fields) (to : ℕ) → length s - at ≤ n → fields_from n last s f at ≡ parsed g to
        → (told : List Sent) × FieldsLaid last told (drop at s) × (g ≡ kept_all f told)
    unfolding fields_from
    fields-found zero f at g to room e = nothing_left f at g (omega arith) (cc)
    fields-found (suc n) f at g to room e =
        pick-either (ltb at (length s)) e
        (λ more p.
        let (f', m, q, r) = then-parsed (field_at last s f at) _ g to p in
        let inside : at < length s = ltb-true at (length s) more in
        let forward : at < m = field-forward s last f at q in
        let (id, from, form, what) = field-parts f at f' m q in
        go id from f' m form what r (fields-found n f' m g to (omega arith) r))
        (λ past p. nothing_left f at g (ltb-false at (length s) past) (cc))
      where
        go : (id from : ℕ) (f' : Fields) (m : ℕ) → Found (Form id) s at from → Next last id f from f' m → fields_from n last s f' m ≡ parsed g to
            → ((told : List Sent) × FieldsLaid last told (drop m s) × (g ≡ kept_all f' told))
            → (told : List Sent) × FieldsLaid last told (drop at s) × (g ≡ kept_all f told)
        go id from f' m form (value x found is) r (told, laid, kept) = (
          x ∷ told,
          rw (form.is, found.is, ← append_assoc) (FieldsLaid.field form.holds found.holds laid),
          kept ∙ ap (λ (y : Fields). kept_all y told) is,
        )
        go id from f' m form (over new above is end) r _ = (
          [],
          rw form.is (FieldsLaid.ignored (drop from s) form.holds new above),
          sym (at-end n f g to (rw (is, end) at r)),
        )

-- ---- the record

module _ (s : List ℕ) (are : Bytes s) where
  first_byte : byte_at s 0 ≡ parsed 2 1 → s ≡ (2 ∷ []) ++ drop 1 s
  first_byte e =
      let (inside, is, _) = byte-parsed s 0 2 1 e in
      drop-cons s 0 0 inside ∙ ap (λ (b : ℕ). b ∷ drop 1 s) (sym is)

  -- behind a place, so many bytes and the rest
  pub split-at-size : (start size : ℕ) → start ≤ size → drop start s ≡ part s start (size - start) ++ drop size s
  split-at-size start size h =
      let sum : start + (size - start) ≡ size = omega arith in
      part-from s start (size - start) ∙ ap (λ (n : ℕ). part s start (size - start) ++ drop n s) sum

  pub tagged-accepted : (x : Seen) (used : ℕ) → tagged s ≡ parsed x used → TaggedLaid s x used
  tagged-accepted x used read =
      let p = tagged-parsed s read in
      let a = form-read s are 1 p.size p.size-end p.size-read in
      let b = form-read s are p.size-end p.last p.start p.last-read in
      let t = part s p.start (p.size - p.start) in
      rw p.ends (go p.size p.size-end p.last p.start p.fields a b p.large p.here (byte-parsed s 0 2 1 p.version).0
      (first_byte p.version)
      (fields-found t (part_bytes s p.start (p.size - p.start) are) p.last (length t) no_fields 0 p.fields p.fields-end (omega arith)
      p.fields_read)
      p.tag_there p.is)
    where
      go : (size m last start : ℕ) (f : Fields) (a : Found (Form size) s 1 m) (b : Found (Form last) s m start) → start ≤ size → size ≤ length s → 0 < length s
          → s ≡ (2 ∷ []) ++ drop 1 s
          → ((told : List Sent) × FieldsLaid last told (part s start (size - start)) × (f ≡ kept_all no_fields told))
          → get_or f.present 3 false ≡ true → x ≡ seen_of f → TaggedLaid s x size
      go size m last start f a b large here some two (told, laid, kept) there is =
          let long : length (part s start (size - start)) ≡ size - start = part_length (size - start) s start (omega arith) in
          record {
            last = last;
            size_bytes = a.bytes;
            last_bytes = b.bytes;
            fields = part s start (size - start);
            unread = drop size s;
            whole = two ∙ ap (λ (l : List ℕ). (2 ∷ []) ++ l)
                (a.is ∙ ap (λ (l : List ℕ). a.bytes ++ l) (b.is ∙ ap (λ (l : List ℕ). b.bytes ++ l) (split-at-size start size large))) ∙ simp append_assoc;
            size_is = a.holds;
            last_is = b.holds;
            counts = simp length-append (omega (arith, long, found-size s a (omega arith), found-size s b a.inside));
            told = told;
            fields_are = laid;
            tagged = sym (sent-at told 3 (omega arith)) ∙ ap (λ (y : Fields). get_or y.present 3 false) (sym kept) ∙ there;
            is = is ∙ ap seen_of kept ∙ seen-said told;
          }
