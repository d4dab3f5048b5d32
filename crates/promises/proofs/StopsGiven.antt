-- Where reading an event has come to that is refused, and what is wrong there.
use Prim.Native.Nat.{ℕ, zero, suc, ◌+◌, ◌-◌, ◌*◌, ◌≤◌, ◌<◌}
use mathlib.Core.Path.{◌≡◌, refl, sym, ap, ◌∙◌}
use mathlib.Core.Bool.{Bool, true, false, ◌&&◌}
use mathlib.Core.List.{List, [], ◌∷◌}
use native.Mathlib.Omega.{arith}
use lib.Dec.{eqb, leb, ltb}
use lib.IntN.{ℤ, pos, negsuc}
use lib.ListN.{length, get_or}
use borrow.Author.Tests.{ltb-true, leb-true, leb-false, eqb-true, eqb-false}
use Rattle.misc.specs.Refusal.{ended, too_large, negative, bad_tag, unknown_field, wrong_version, no_tag, small_payload}
use Rattle.misc.specs.Parse.{Parse, refuse, parsed, judged, part, Bytes, byte_at, bytes_at}
use Rattle.misc.specs.Le.{le_of, le_at}
use Rattle.misc.specs.Mark.{has_bit}
use Rattle.misc.specs.Varlen.{varlen_at}
use Rattle.misc.specs.Signed.{signed_at, not_negative, natural_at}
use Rattle.misc.specs.Lenenc.{lenenc_at}
use Rattle.misc.proofs.ParseLaws.{then-parsed, mapped-parsed, judged-parsed, bytes-parsed, byte-parsed}
use Rattle.packets.proofs.Tests.{clash, and-true}
use Rattle.packets.specs.Tag.{is_tag}
use Rattle.gtid_event.specs.declared.GtidEvent.{GtidEvent}
use Rattle.gtid_event_read.specs.declared.Fields.{Fields}
use Rattle.gtid_event_read.specs.Fields.{Kind, any_number, up_to, natural, uuid, tag, unknown, field_table, kind_of, no_fields, limited_at, uuid_at, tag_at, value_at}
use Rattle.gtid_event_read.specs.Fields.{field_at, fields_from, fields_of}
use Rattle.gtid_event_read.specs.Untagged.{pair, if_left, original_after, pair_at, timestamps_at, length_at, versions_at, opening_at, clock_at, typecode_at, untagged}
use Rattle.gtid_event_read.specs.Tagged.{finished, payload_at, tagged}
use Rattle.promises.proofs.Stops.{plain, varlen, lenenc, Ends, Later, AtLength, AtVersions, Untagged, UntaggedStop, Reached, AtValue, AtUuidItem, Wanted}
use Rattle.promises.proofs.Stops.{FieldStop, Envelope, TaggedStop}
use Rattle.promises.proofs.Gives.{Gives, le-parsed, refuse-gives, parsed-gives, then-gives, then-at-gives, mapped-gives, pick_gives, judged-gives}
use Rattle.promises.proofs.Gives.{many-gives, bytes_gives, byte-gives, le-gives, then-le-gives, varlen-gives, sized-gives, lenenc-gives}

-- ---- an untagged event

-- the opening has 25 bytes
opening-parsed : (s : List ℕ) (e : GtidEvent) (to : ℕ) → opening_at s 0 ≡ parsed e to → to ≡ 25
unfolding opening_at
opening-parsed s e to h =
    let (flags, at₁, one, rest) = then-parsed (byte_at s 0) _ e to h in
    let (sid, at₂, sixteen, last) = then-parsed (bytes_at 16 s at₁) _ e to rest in
    let (gno, eight, _) = mapped-parsed _ (le_at 8 s at₂) e to last in
    omega (arith, (byte-parsed s 0 flags at₁ one).2, (bytes-parsed 16 s at₁ sid at₂ sixteen).2, (le-parsed 8 s at₂ gno to eight).2)

module _ (s : List ℕ) where
  opening-faults : Gives (UntaggedStop s) (opening_at s 0)
  unfolding opening_at
  opening-faults =
      then-at-gives (UntaggedStop s) (byte_at s 0) _ 1 (byte-gives (UntaggedStop s) s 0 (UntaggedStop.cut 0 (plain 1) Untagged.flags))
      (λ flags at e. (byte-parsed s 0 flags at e).2) (λ flags _.
      then-at-gives (UntaggedStop s) (bytes_at 16 s 1) _ 17 (bytes_gives (UntaggedStop s) s 16 1 (UntaggedStop.cut 1 (plain 16) Untagged.uuid_bytes))
      (λ sid at e. sym (bytes-parsed 16 s 1 sid at e).2) (λ sid _.
      mapped-gives (UntaggedStop s) _ (le_at 8 s 17) (le-gives (UntaggedStop s) s 8 17 (UntaggedStop.cut 17 (plain 8) Untagged.gno))))

  if-left-faults : {A : Type 0} (n at : ℕ) (absent : A) (item : Parse A) → (n ≤ length s - at → Gives (UntaggedStop s) item)
      → Gives (UntaggedStop s) (if_left n s at absent item)
  if-left-faults n at absent item h =
      pick_gives (UntaggedStop s) (leb n (length s - at)) item (parsed absent at) (λ left. h (leb-true n (length s - at) left))
      (λ _. parsed-gives (UntaggedStop s) absent at)

  -- an immediate number that is all there
  pair-faults : (w at : ℕ) → at + w ≤ length s → (has_bit (8 * w - 1) (le_of (part s at w)) ≡ true → Ends (plain w) s (at + w) → UntaggedStop s 1)
      → Gives (UntaggedStop s) (pair_at w s at)
  unfolding pair_at
  pair-faults w at there h =
      then-le-gives (UntaggedStop s) s w at (original_after w s) (λ ends. absurd (omega arith)) (λ v e.
      pick_gives (UntaggedStop s) (has_bit (8 * w - 1) v) _ _
      (λ marked. mapped-gives (UntaggedStop s) _ (le_at w s (at + w))
      (le-gives (UntaggedStop s) s w (at + w) (h (rw (le-parsed w s at v (at + w) e).1 at marked))))
      (λ _. parsed-gives (UntaggedStop s) (pair v v) (at + w)))

  module _ (bytes : Bytes s) (later : Later s) where
    timestamps-faults : Gives (UntaggedStop s) (timestamps_at s 42)
    unfolding timestamps_at
    timestamps-faults =
        if-left-faults 7 42 (pair 0 0) (pair_at 7 s 42) (λ left.
        pair-faults 7 42 (omega arith) (λ marked. UntaggedStop.cut 49 (plain 7) (Untagged.original_timestamp later (omega arith) marked)))

    length-faults : (at : ℕ) → AtLength s at → Gives (UntaggedStop s) (length_at s at)
    unfolding length_at
    length-faults at here =
        if-left-faults 1 at 0 (lenenc_at s at) (λ left.
        lenenc-gives (UntaggedStop s) s at (bytes at) (UntaggedStop.cut at lenenc (Untagged.transaction_length here (omega arith))) (UntaggedStop.lead at here))

    versions-faults : (at : ℕ) → AtVersions s at → Gives (UntaggedStop s) (versions_at s at)
    unfolding versions_at
    versions-faults at here =
        if-left-faults 4 at _ (pair_at 4 s at) (λ left.
        pair-faults 4 at (omega arith) (λ marked. UntaggedStop.cut (at + 4) (plain 4) (Untagged.original_version here (omega arith) marked)))

    clock-faults : (e : GtidEvent) → Gives (UntaggedStop s) (clock_at s e 26)
    unfolding clock_at
    clock-faults e =
        then-le-gives (UntaggedStop s) s 8 26 _ (UntaggedStop.cut 26 (plain 8) (Untagged.last_committed later)) (λ last _.
        then-le-gives (UntaggedStop s) s 8 34 _ (UntaggedStop.cut 34 (plain 8) (Untagged.sequence_number later)) (λ sequence _.
        then-gives (UntaggedStop s) (timestamps_at s 42) _ timestamps-faults (λ timestamps at₃ e₃.
        let at_length : AtLength s at₃ = record { later = later; passed = (timestamps, e₃) } in
        then-gives (UntaggedStop s) (length_at s at₃) _ (length-faults at₃ at_length) (λ len at₄ e₄.
        mapped-gives (UntaggedStop s) _ (versions_at s at₄) (versions-faults at₄ (record { from = at₃; before = at_length; passed = (len, e₄) }))))))

  pub untagged-stops : Bytes s → Gives (UntaggedStop s) (untagged s)
  unfolding untagged
  untagged-stops bytes =
      then-at-gives (UntaggedStop s) (opening_at s 0) _ 25 opening-faults (opening-parsed s) (λ e _.
      pick_gives (UntaggedStop s) (typecode_at s 25) _ _ (λ later. clock-faults bytes later e) (λ _. parsed-gives (UntaggedStop s) e 25))

-- ---- the fields of a tagged event

-- a uuid is field 1 and a tag is field 3, and no other field is one
abbrev placed : Kind → ℕ → Bool
placed any_number id = true
placed (up_to limit) id = true
placed natural id = true
placed uuid id = eqb id 1
placed tag id = eqb id 3
placed unknown id = true

abbrev are_placed : List Kind → ℕ → Bool
are_placed [] from = true
are_placed (k ∷ ks) from = placed k from && are_placed ks (suc from)

all_placed : (ks : List Kind) (from : ℕ) → are_placed ks from ≡ true → (i id : ℕ) → id ≡ from + i → placed (get_or ks i unknown) id ≡ true
all_placed [] from h i id e = refl
all_placed (k ∷ ks) from h zero id e =
    let here : id ≡ from = omega arith in
    rw here (and-true (placed k from) _ h).0
all_placed (k ∷ ks) from h (suc i) id e = all_placed ks (suc from) (and-true (placed k from) _ h).1 i id (omega arith)

kind-placed : (id : ℕ) (k : Kind) → kind_of id ≡ k → placed k id ≡ true
kind-placed id k e = rw (← e) (all_placed field_table 0 refl id id (omega arith))

-- the kinds whose values are or begin with one number: all fields but a uuid
abbrev counted : Kind → Bool
counted any_number = true
counted (up_to limit) = true
counted natural = true
counted uuid = false
counted tag = true
counted unknown = false

module _ (last : ℕ) (s : List ℕ) where
  -- item number i of a uuid
  uuid-item-faults : {i at : ℕ} → AtUuidItem last s i at → Gives (FieldStop last s) (limited_at 255 s at)
  unfolding limited_at
  uuid-item-faults {at} here =
      judged-gives (FieldStop last s) _ too_large (varlen_at s at) (varlen-gives (FieldStop last s) s at (FieldStop.cut at varlen (Wanted.uuid_item here)))
      (λ v to e over. FieldStop.large_item here e (leb-false v 255 over))

  module _ {id from : ℕ} (here : AtValue last s id from) where
    number_cut : counted (kind_of id) ≡ true → Ends varlen s from → FieldStop last s 1
    number_cut h = FieldStop.cut from varlen (Wanted.number here (λ e. clash h (ap counted e)) (λ e. clash h (ap counted e)))

    varlen-faults : counted (kind_of id) ≡ true → Gives (FieldStop last s) (varlen_at s from)
    varlen-faults h = varlen-gives (FieldStop last s) s from (number_cut h)

    limited-faults : (limit : ℕ) → kind_of id ≡ up_to limit → Gives (FieldStop last s) (limited_at limit s from)
    unfolding limited_at
    limited-faults limit is =
        judged-gives (FieldStop last s) _ too_large (varlen_at s from) (varlen-faults (ap counted is))
        (λ v to e over. FieldStop.large here is e (leb-false v limit over))

    natural-faults : kind_of id ≡ natural → Gives (FieldStop last s) (natural_at s from)
    unfolding natural_at signed_at
    natural-faults is =
        then-gives (FieldStop last s) (signed_at s from) not_negative
        (mapped-gives (FieldStop last s) _ (varlen_at s from) (varlen-faults (ap counted is))) go
      where
        go : (v : ℤ) (next : ℕ) → signed_at s from ≡ parsed v next → Gives (FieldStop last s) (not_negative v next)
        go (pos n) next e = parsed-gives (FieldStop last s) n next
        go (negsuc n) next e = refuse-gives (FieldStop last s) negative (FieldStop.negative here is e)

    uuid-faults : kind_of id ≡ uuid → Gives (FieldStop last s) (uuid_at s from)
    unfolding uuid_at
    uuid-faults is =
        let first : AtValue last s 1 from = rw (eqb-true id 1 (kind-placed id uuid is)) at here in
        many-gives (FieldStop last s) (limited_at 255 s) 16 from (λ i to before below e.
        uuid-item-faults (record { from = from; value = first; below = below; passed = (before, e) }))

    tag-faults : kind_of id ≡ tag → Gives (FieldStop last s) (tag_at s from)
    unfolding tag_at
    tag-faults is =
        let third : AtValue last s 3 from = rw (eqb-true id 3 (kind-placed id tag is)) at here in
        sized-gives (FieldStop last s) s is_tag bad_tag from (number_cut (ap counted is))
        (λ n to e. FieldStop.cut to (plain n) (Wanted.tag_bytes third e))
        (λ n to e room bad. FieldStop.tag_rule third e room bad)

    value-faults : (f : Fields) (k : Kind) → kind_of id ≡ k → Gives (FieldStop last s) (value_at k last id s f from)
    value-faults f any_number is = mapped-gives (FieldStop last s) _ (varlen_at s from) (varlen-faults (ap counted is))
    value-faults f (up_to limit) is = mapped-gives (FieldStop last s) _ (limited_at limit s from) (limited-faults limit is)
    value-faults f natural is = mapped-gives (FieldStop last s) _ (natural_at s from) (natural-faults is)
    value-faults f uuid is = mapped-gives (FieldStop last s) _ (uuid_at s from) (uuid-faults is)
    value-faults f tag is = mapped-gives (FieldStop last s) _ (tag_at s from) (tag-faults is)
    value-faults f unknown is =
        pick_gives (FieldStop last s) (leb id last) _ _
        (λ low. refuse-gives (FieldStop last s) unknown_field (FieldStop.unknown_id here is (leb-true id last low)))
        (λ _. parsed-gives (FieldStop last s) f (length s))

  field-faults : (n : ℕ) (f : Fields) (at : ℕ) → Reached last s f at → Gives (FieldStop last s) (fields_from n last s f at)
  unfolding fields_from field_at
  field-faults zero f at here = parsed-gives (FieldStop last s) f at
  field-faults (suc n) f at here =
      pick_gives (FieldStop last s) (ltb at (length s)) _ _ (λ inside.
      let more : at < length s = ltb-true at (length s) inside in
      then-gives (FieldStop last s) (field_at last s f at) _
      (then-gives (FieldStop last s) (varlen_at s at) _ (varlen-gives (FieldStop last s) s at (FieldStop.cut at varlen (Wanted.field_id here more))) (λ id from e.
      value-faults (record { so_far = f; at = at; reached = here; more = more; told = e }) f (kind_of id) refl))
      (λ g to e. field-faults n g to (Reached.next here more e)))
      (λ _. parsed-gives (FieldStop last s) f at)

-- ---- a tagged event

-- the version byte is 2, and stands before place 1
version-parsed : (s : List ℕ) (v to : ℕ) → judged (λ version. eqb version 2) wrong_version (byte_at s 0) ≡ parsed v to
    → (1 ≤ length s) × (get_or s 0 0 ≡ 2) × (to ≡ 1)
version-parsed s v to e =
    let (read, good) = judged-parsed (λ version. eqb version 2) wrong_version (byte_at s 0) v to e in
    let (inside, is, next) = byte-parsed s 0 v to read in
    (omega arith, sym is ∙ eqb-true v 2 good, next)

module _ (s : List ℕ) where
  module _ {size last start : ℕ} (envelope : Envelope s size last start) where
    finished-faults : start ≤ size → size ≤ length s → (p : Parse Fields) → fields_of last (part s start (size - start)) ≡ p
        → Gives (TaggedStop s) (finished size p)
    finished-faults behind whole (refuse x) is =
        refuse-gives (TaggedStop s) x
        (TaggedStop.in_fields envelope behind whole (field-faults last (part s start (size - start)) _ no_fields 0 Reached.first x is))
    finished-faults behind whole (parsed f at) is =
        pick_gives (TaggedStop s) (get_or f.present 3 false) _ _ (λ _. parsed-gives (TaggedStop s) _ size)
        (λ none. refuse-gives (TaggedStop s) no_tag (TaggedStop.no_tag envelope behind whole is none))

    payload-faults : Gives (TaggedStop s) (payload_at s size last start)
    payload-faults =
        pick_gives (TaggedStop s) (leb start size) _ _
        (λ large.
        let behind : start ≤ size = leb-true start size large in
        pick_gives (TaggedStop s) (leb size (length s)) _ _
        (λ whole. finished-faults behind (leb-true size (length s) whole) _ refl)
        (λ over. refuse-gives (TaggedStop s) ended (TaggedStop.cut_payload envelope behind (leb-false size (length s) over))))
        (λ small. refuse-gives (TaggedStop s) small_payload (TaggedStop.small_payload envelope (leb-false start size small)))

  pub tagged-stops : Gives (TaggedStop s) (tagged s)
  unfolding tagged
  tagged-stops =
      then-at-gives (TaggedStop s) (judged (λ version. eqb version 2) wrong_version (byte_at s 0)) _ 1
      (judged-gives (TaggedStop s) _ wrong_version (byte_at s 0) (byte-gives (TaggedStop s) s 0 TaggedStop.cut_version) (λ v to e other.
      let (inside, is, _) = byte-parsed s 0 v to e in
      TaggedStop.wrong_version (omega arith) (λ two. eqb-false v 2 other (is ∙ two))))
      (λ v to e. (version-parsed s v to e).2)
      (λ v e.
      let (some, two, _) = version-parsed s v 1 e in
      then-gives (TaggedStop s) (varlen_at s 1) _ (varlen-gives (TaggedStop s) s 1 (TaggedStop.cut_size some two)) (λ size from sized.
      then-gives (TaggedStop s) (varlen_at s from) (payload_at s size) (varlen-gives (TaggedStop s) s from (TaggedStop.cut_last two sized)) (λ last start told.
      payload-faults (record { version = two; from = from; sized = sized; told = told }))))
