-- The fields of a tagged record, written one after another, are read and kept one after another.
use mathlib.Core.Path.{◌≡◌, refl, sym, ap, ◌∙◌}
use mathlib.Core.Bool.{Bool, true, not}
use mathlib.Core.List.{List, [], ◌∷◌, ◌++◌, append_assoc, append-nil}
use Prim.Native.Nat.{ℕ, zero, suc, ◌+◌, ◌*◌, ◌/◌, ◌^◌, ◌<◌, ◌≤◌}
use native.Mathlib.Nat.{add-zero}
use native.Mathlib.Omega.{arith}
use lib.Dec.{eqb}
use lib.ListN.{length, set, length-append}
use borrow.Author.Tests.{lt-ltb, le-ltb, le-leb}
use Rattle.misc.specs.Pick.{pick}
use Rattle.misc.specs.Parse.{Bytes, parsed, mapped, many}
use Rattle.misc.specs.Varlen.{varlen_bytes}
use Rattle.misc.proofs.SignedLaws.{natural-even}
use Rattle.misc.proofs.VarlenLaws.{length-varlen_bytes, size-range}
use Rattle.misc.proofs.Walk.{many-next, many-none}
use Rattle.packets.specs.Tag.{is_tag}
use Rattle.packets.proofs.Tests.{split}
use Rattle.packets.proofs.TagLaws.{tag-at-most-32}
use Rattle.gtid_event_read.specs.declared.Fields.{Fields}
use Rattle.gtid_event_read.specs.Fields.{Kind, any_number, up_to, natural, kind_of, with_number, with_uuid, with_tag_bytes}
use Rattle.gtid_event_read.specs.Fields.{limited_at, uuid_at, tag_at, value_at}
use Rattle.gtid_event_read.specs.Fields.{field_at, fields_from}
use Rattle.gtid_event_write.specs.Layout.{number_bytes, unless_bytes, items_bytes}
use Rattle.gtid_event_laws.proofs.Stands.{Stands, each, bytes-stand, varlen-stands}

-- ---- one field

-- read where f is kept so far, these bytes are a field that makes it g
pub record Field (f : Fields) (bs : List ℕ) (g : Fields) : Type 0 where
  pub some : 1 ≤ length bs
  pub reads : (last : ℕ) {s : List ℕ} {at : ℕ} → Stands bs s at → field_at last s f at ≡ parsed g (at + length bs)

-- its id, and a value that is read by the kind that the id has
field : (id : ℕ) (value : List ℕ) {f g : Fields} → id < 2 ^ 64
    → ((last : ℕ) (s : List ℕ) (at : ℕ) → Stands value s at → value_at (kind_of id) last id s f at ≡ parsed g (at + length value))
    → Field f (varlen_bytes id ++ value) g
unfolding field_at
field id value {f} {g} small reads =
    record {
      some = rw length-append (omega (arith, length-varlen_bytes id, size-range id));
      reads = λ last {s} {at} st.
          let (first, (second, _)) = each (varlen_bytes id ∷ value ∷ []) st (simp append-nil) in
          rw (varlen-stands id small first, reads last s _ second) (ap (parsed g) (simp length-append (omega arith)));
    }

-- a number of some kind, and the unsigned integer that is sent for it
pub data Sent : Kind → ℕ → ℕ → Type 0 where
  plain : {v : ℕ} → v < 2 ^ 64 → Sent any_number v v
  limited : {limit v : ℕ} → v ≤ limit → v < 2 ^ 64 → Sent (up_to limit) v v
  doubled : {v : ℕ} → v < 2 ^ 63 → Sent natural v (v * 2)

number-stands : (id : ℕ) (f : Fields) {kind : Kind} {v sent : ℕ} → Sent kind v sent
    → (last : ℕ) (s : List ℕ) (at : ℕ) → Stands (varlen_bytes sent) s at
    → value_at kind last id s f at ≡ parsed (with_number id f v) (at + length (varlen_bytes sent))
unfolding limited_at
number-stands id f (plain {v} h) last s at st = rw (varlen-stands v h st)
number-stands id f (limited {limit} {v} h k) last s at st = rw (varlen-stands v k st, le-leb v limit h)
number-stands id f (doubled {v} h) last s at st =
    let half : v * 2 / 2 ≡ v = omega arith in
    rw (natural-even s at (varlen-stands (v * 2) (omega arith) st) (omega arith), half)

pub number-field : (id : ℕ) {f : Fields} {v sent : ℕ} → id < 2 ^ 64 → Sent (kind_of id) v sent → Field f (number_bytes id sent) (with_number id f v)
number-field id {f} {v} {sent} small is = field id (varlen_bytes sent) small (number-stands id f is)

-- ---- the uuid

items-stand : (bs : List ℕ) → Bytes bs → {s : List ℕ} {at : ℕ} → Stands (items_bytes bs) s at
    → many (limited_at 255 s) (length bs) at ≡ parsed bs (at + length (items_bytes bs))
unfolding items_bytes limited_at
items-stand [] small {s} {at} st = many-none (limited_at 255 s) at ∙ ap (parsed []) (sym (add-zero at))
items-stand (b ∷ bs) small {s} {at} st =
    let (first, (rest, _)) = each (varlen_bytes b ∷ items_bytes bs ∷ []) st (simp append-nil) in
    let low : b < 256 = small 0 in
    let one : limited_at 255 s at ≡ parsed b (at + length (varlen_bytes b)) = rw (varlen-stands b (omega arith) first, le-leb b 255 (omega arith)) in
    many-next (limited_at 255 s) (length bs) at b _ one
    ∙ rw (items-stand bs (λ i. small (suc i)) rest) (ap (parsed (b ∷ bs)) (simp length-append (omega arith)))

pub uuid-field : {f : Fields} (sid : List ℕ) → length sid ≡ 16 → Bytes sid → Field f (varlen_bytes 1 ++ items_bytes sid) (with_uuid f sid)
unfolding uuid_at
uuid-field {f} sid size small =
    field 1 (items_bytes sid) (omega arith)
    (λ last s at st. ap (mapped (with_uuid f)) (rw size at (items-stand sid small st)))

-- ---- the tag

pub tag-field : {f : Fields} (t : List ℕ) (n : ℕ) → n ≡ length t → is_tag t ≡ true → Field f (varlen_bytes 3 ++ varlen_bytes n ++ t) (with_tag_bytes f t)
unfolding tag_at
tag-field {f} t n size is =
    rw append_assoc (field 3 (varlen_bytes n ++ t) (omega arith)
    (λ last s at st.
    let (first, (second, _)) = each (varlen_bytes n ∷ t ∷ []) st (simp append-nil) in
    let most = tag-at-most-32 t is in
    rw (varlen-stands n (omega arith) first, bytes-stand second n size, is) (ap (parsed (with_tag_bytes f t)) (simp length-append (omega arith)))))

-- ---- fields one after another

-- from f on, these bytes are fields that make it the second
pub data Run : Fields → List ℕ → Fields → Type 0 where
  none : {f : Fields} → Run f [] f
  more : {f g h : Fields} {bs cs : List ℕ} → Field f bs g → Run g cs h → Run f (bs ++ cs) h

pub one : {f g : Fields} {bs : List ℕ} → Field f bs g → Run f bs g
one {f} {g} {bs} x = rw append-nil at (more x none)

infixl 40 ◌then◌
pub ◌then◌ : {f g h : Fields} {bs cs : List ℕ} → Run f bs g → Run g cs h → Run f (bs ++ cs) h
none then q = q
◌then◌ (more {bs = bs} {cs = cs} x r) q = rw append_assoc (more x (r then q))

-- what is kept of a number that is left out if the test holds
abbrev pub perhaps : ℕ → ℕ → Bool → Fields → Fields
perhaps id v out f =
    record {
      numbers = set f.numbers id (pick out 0 v);
      sid = f.sid;
      tag = f.tag;
      tag_len = f.tag_len;
      present = set f.present id (not out);
    }

pub optional : (id v assumed : ℕ) {f : Fields} → perhaps id v true f ≡ f → Field f (number_bytes id v) (with_number id f v)
    → Run f (unless_bytes id v assumed) (perhaps id v (eqb v assumed) f)
optional id v assumed {f} absent x =
    split (eqb v assumed)
    (λ out. rw (out, absent) none)
    (λ sent. rw sent (one x))

-- all of them are read, up to the end
pub run-read : {f g : Fields} {bs : List ℕ} → Run f bs g → (last n : ℕ) (pre : List ℕ) → length bs ≤ n
    → fields_from n last (pre ++ bs) f (length pre) ≡ parsed g (length (pre ++ bs))
unfolding fields_from
run-read {f} none last zero pre h = rw append-nil
run-read {f} none last (suc n) pre h = rw (append-nil, le-ltb (length pre) (length pre) (omega arith))
run-read (more {bs = bs} {cs = cs} x r) last zero pre h = absurd (omega (arith, x.some, length-append bs cs))
run-read (more {bs = bs} {cs = cs} x r) last (suc n) pre h =
    let some = x.some in
    let size : length bs + length cs ≤ suc n = rw length-append at h in
    let inside : length pre < length (pre ++ bs ++ cs) = simp length-append (omega arith) in
    rw (
      ← append_assoc pre bs cs,
      lt-ltb (length pre) (length (pre ++ bs ++ cs)) inside,
      x.reads last (record { before = pre; after = cs; whole = refl; place = refl }),
      ← length-append pre bs,
    )
    (run-read r last n (pre ++ bs) (omega arith))
