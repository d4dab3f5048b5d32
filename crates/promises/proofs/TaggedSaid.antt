-- What reading keeps of the fields that were sent is the record that they say, and which they were.
use Prim.Native.Nat.{ℕ, zero, suc, ◌<◌}
use mathlib.Core.Path.{◌≡◌, refl, sym, ap, ◌∙◌}
use mathlib.Core.Bool.{Bool, true, false, ◌||◌}
use mathlib.Core.List.{List, [], ◌∷◌}
use native.Mathlib.Omega.{arith}
use lib.Dec.{eqb}
use lib.ListN.{length, get_or, set, length-set, get_or-replicate}
use lib.Seq.{get_or-set_same, get_or-set_other, ext_get_or}
use borrow.Author.Tests.{eqb-true, eqb-false}
use Rattle.misc.specs.Pick.{pick}
use Rattle.packets.specs.Kept.{padded}
use Rattle.packets.proofs.Tests.{split}
use Rattle.gtid_event.proofs.BuiltLaws.{same-event}
use Rattle.gtid_event_read.specs.declared.Fields.{Fields}
use Rattle.gtid_event_read.specs.Fields.{no_fields, with_number, with_uuid, with_tag_bytes}
use Rattle.gtid_event_read.specs.Tagged.{record_of, seen_of}
use Rattle.promises.specs.TaggedLayout.{Sent, number, the_uuid, the_tag, sends, sent_fields, last_number, last_uuid, last_tag, said, seen_in}

-- ---- what is kept

abbrev pub kept_in : Fields → Sent → Fields
kept_in f (number k v) = with_number k f v
kept_in f (the_uuid us) = with_uuid f us
kept_in f (the_tag t) = with_tag_bytes f t

abbrev pub kept_all : Fields → List Sent → Fields
kept_all f [] = f
kept_all f (x ∷ told) = kept_all (kept_in f x) told

-- a place of a list in which one was set
set_at : {A : Type 0} (l : List A) (k id : ℕ) (a d : A) → id < length l → get_or (set l k a) id d ≡ pick (eqb k id) a (get_or l id d)
set_at l k id a d h = split (eqb k id)
    (λ same. let e : k ≡ id = eqb-true k id same in rw (same, e) (get_or-set_same l id a d h))
    (λ other. rw other (get_or-set_other l k id a d (λ e. eqb-false k id other (sym e))))

-- ---- numbers

number-last : (told : List Sent) (f : Fields) (id : ℕ) → id < length f.numbers
    → get_or (kept_all f told).numbers id 0 ≡ last_number id told (get_or f.numbers id 0)
number-last [] f id h = refl
number-last (number k v ∷ told) f id h =
    number-last told (with_number k f v) id (rw length-set h) ∙ ap (last_number id told) (set_at f.numbers k id v 0 h)
number-last (the_uuid us ∷ told) f id h = number-last told (with_uuid f us) id h
number-last (the_tag t ∷ told) f id h = number-last told (with_tag_bytes f t) id h

-- a number if it was sent, else what stands for it
abbrev if_sent : Fields → ℕ → ℕ → ℕ
if_sent f id absent = pick (get_or f.present id false) (get_or f.numbers id 0) absent

original-last : (told : List Sent) (f : Fields) (id absent : ℕ) → id < length f.numbers → id < length f.present → eqb 1 id ≡ false → eqb 3 id ≡ false
    → if_sent (kept_all f told) id absent ≡ last_number id told (if_sent f id absent)
original-last [] f id absent h p a b = refl
original-last (number k v ∷ told) f id absent h p a b =
    original-last told (with_number k f v) id absent (rw length-set h) (rw length-set p) a b ∙ ap (last_number id told) step
  where
    step : if_sent (with_number k f v) id absent ≡ pick (eqb k id) v (if_sent f id absent)
    step = rw (set_at f.present k id true false p, set_at f.numbers k id v 0 h) (split (eqb k id) (λ e. rw e) (λ e. rw e))
original-last (the_uuid us ∷ told) f id absent h p a b =
    original-last told (with_uuid f us) id absent h (rw length-set p) a b ∙ ap (last_number id told) (rw (set_at f.present 1 id true false p, a))
original-last (the_tag t ∷ told) f id absent h p a b =
    original-last told (with_tag_bytes f t) id absent h (rw length-set p) a b ∙ ap (last_number id told) (rw (set_at f.present 3 id true false p, b))

-- ---- uuid and tag

uuid-last : (told : List Sent) (f : Fields) → (kept_all f told).sid ≡ last_uuid told f.sid
uuid-last [] f = refl
uuid-last (number k v ∷ told) f = uuid-last told (with_number k f v)
uuid-last (the_uuid us ∷ told) f = uuid-last told (with_uuid f us)
uuid-last (the_tag t ∷ told) f = uuid-last told (with_tag_bytes f t)

tag-last : (told : List Sent) (f : Fields) (t : List ℕ) → f.tag ≡ padded 32 t → f.tag_len ≡ length t
    → ((kept_all f told).tag ≡ padded 32 (last_tag told t)) × ((kept_all f told).tag_len ≡ length (last_tag told t))
tag-last [] f t a b = (a, b)
tag-last (number k v ∷ told) f t a b = tag-last told (with_number k f v) t a b
tag-last (the_uuid us ∷ told) f t a b = tag-last told (with_uuid f us) t a b
tag-last (the_tag u ∷ told) f t a b = tag-last told (with_tag_bytes f u) u refl refl

-- ---- the record

record-said : (told : List Sent) → record_of (kept_all no_fields told) ≡ said told
unfolding padded
record-said told =
    let (tag, tag-length) = tag-last told no_fields [] refl refl in
    same-event (record_of (kept_all no_fields told)) (said told)
    (number-last told no_fields 0 (omega arith))
    (uuid-last told no_fields)
    (number-last told no_fields 2 (omega arith))
    tag
    tag-length
    refl
    (number-last told no_fields 4 (omega arith))
    (number-last told no_fields 5 (omega arith))
    (number-last told no_fields 6 (omega arith))
    (original-last told no_fields 7 _ (omega arith) (omega arith) refl refl ∙ ap (last_number 7 told) (number-last told no_fields 6 (omega arith)))
    (number-last told no_fields 8 (omega arith))
    (number-last told no_fields 9 (omega arith))
    (original-last told no_fields 10 _ (omega arith) (omega arith) refl refl ∙ ap (last_number 10 told) (number-last told no_fields 9 (omega arith)))
    (number-last told no_fields 11 (omega arith))

-- ---- which fields were there

either_way : (t p r : Bool) → pick t true p || r ≡ p || (t || r)
either_way true true r = refl
either_way true false r = refl
either_way false p r = refl

none_more : (b : Bool) → b ≡ b || false
none_more true = refl
none_more false = refl

-- one more mark
mark : (p : List Bool) (k id : ℕ) (r : Bool) → id < length p → get_or (set p k true) id false || r ≡ get_or p id false || (eqb k id || r)
mark p k id r h = rw (set_at p k id true false h) (either_way (eqb k id) (get_or p id false) r)

present-last : (told : List Sent) (f : Fields) (id : ℕ) → id < length f.present
    → get_or (kept_all f told).present id false ≡ get_or f.present id false || sends id told
present-last [] f id h = none_more (get_or f.present id false)
present-last (number k v ∷ told) f id h = present-last told (with_number k f v) id (rw length-set h) ∙ mark f.present k id (sends id told) h
present-last (the_uuid us ∷ told) f id h = present-last told (with_uuid f us) id (rw length-set h) ∙ mark f.present 1 id (sends id told) h
present-last (the_tag t ∷ told) f id h = present-last told (with_tag_bytes f t) id (rw length-set h) ∙ mark f.present 3 id (sends id told) h

present-long : (told : List Sent) (f : Fields) → length (kept_all f told).present ≡ length f.present
present-long [] f = refl
present-long (number k v ∷ told) f = present-long told (with_number k f v) ∙ length-set f.present k true
present-long (the_uuid us ∷ told) f = present-long told (with_uuid f us) ∙ length-set f.present 1 true
present-long (the_tag t ∷ told) f = present-long told (with_tag_bytes f t) ∙ length-set f.present 3 true

-- the field with an id is there just if it was sent
pub sent-at : (told : List Sent) (id : ℕ) → id < 12 → get_or (kept_all no_fields told).present id false ≡ sends id told
sent-at told id h = present-last told no_fields id h ∙ ap (λ (b : Bool). b || sends id told) (get_or-replicate 12 id false false h)

-- the id at a place of the list of twelve
pub listed : (told : List Sent) (id : ℕ) → id < 12 → sends id told ≡ get_or (sent_fields told) id false
listed told zero h = refl
listed told (suc zero) h = refl
listed told (suc (suc zero)) h = refl
listed told (suc (suc (suc zero))) h = refl
listed told (suc (suc (suc (suc zero)))) h = refl
listed told (suc (suc (suc (suc (suc zero))))) h = refl
listed told (suc (suc (suc (suc (suc (suc zero)))))) h = refl
listed told (suc (suc (suc (suc (suc (suc (suc zero))))))) h = refl
listed told (suc (suc (suc (suc (suc (suc (suc (suc zero)))))))) h = refl
listed told (suc (suc (suc (suc (suc (suc (suc (suc (suc zero))))))))) h = refl
listed told (suc (suc (suc (suc (suc (suc (suc (suc (suc (suc zero)))))))))) h = refl
listed told (suc (suc (suc (suc (suc (suc (suc (suc (suc (suc (suc zero))))))))))) h = refl
listed told (suc (suc (suc (suc (suc (suc (suc (suc (suc (suc (suc (suc n)))))))))))) h = absurd (omega arith)

-- what is seen of the fields is what was sent
pub seen-said : (told : List Sent) → seen_of (kept_all no_fields told) ≡ seen_in told
seen-said told =
    let long : length (kept_all no_fields told).present ≡ 12 = present-long told no_fields in
    let present : (kept_all no_fields told).present ≡ sent_fields told =
    ext_get_or false (kept_all no_fields told).present (sent_fields told) long (λ id h.
    let few : id < 12 = omega arith in sent-at told id few ∙ listed told id few) in
    rw (record-said told, present)
