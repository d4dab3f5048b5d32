-- Laws of reading (`specs/Previous.antt`): what an item gives that is there, or cut off; what a success says of the bytes; and from an
-- answer back to what was read.
use mathlib.Core.Path.{◌≡◌, refl, sym, ap, ◌∙◌}
use mathlib.Core.Bool.{Bool, true, false}
use mathlib.Core.List.{List, [], ◌∷◌, ◌++◌}
use Prim.Native.Nat.{ℕ, zero, suc, ◌+◌, ◌-◌, ◌*◌, ◌≤◌, ◌<◌}
use native.Mathlib.Omega.{arith}
use lib.Dec.{leb}
use lib.ListN.{length, drop, take-append-drop}
use lib.Seq.{take_at, drop_at, take_all}
use borrow.Author.Tests.{leb-true}
use Rattle.misc.specs.declared.refusal.Refusal.{Refusal}
use Rattle.misc.specs.Refusal.{ended, bad_tag, too_long}
use Rattle.misc.specs.Parse.{Parse, refuse, parsed, and_then, many, part, bytes_at, answered}
use Rattle.misc.specs.declared.Read.{Read}
use Rattle.misc.specs.Body.{body_limit, of_body}
use Rattle.misc.specs.Le.{le_of, le_at}
use Rattle.misc.specs.Varlen.{varlen_at}
use Rattle.misc.proofs.ParseLaws.{split, never, then-parsed, mapped-parsed, judged-parsed, pick-parsed, bytes-here, bytes-gone, bytes-parsed, part_length}
use Rattle.misc.proofs.ParseLaws.{answered-ok, answered-err}
use Rattle.misc.proofs.BodyLaws.{body-fits, body-too-long, body-then}
use Rattle.misc.proofs.LeLaws.{le-here, le-gone}
use Rattle.misc.proofs.Forward.{le-forward, varlen-forward}
use Rattle.packets.specs.Gno.{Interval, interval}
use Rattle.packets.specs.Kept.{padded, kept}
use Rattle.packets.specs.Key.{Key}
use Rattle.packets.proofs.KeptLaws.{kept_full}
use Rattle.packets.proofs.TagLaws.{none-or-tag-short}
use Rattle.previous_gtids_event.specs.Entry.{Entry, entry, uuid_of, tag_of}
use Rattle.packets.specs.Tag.{none_or_tag}
use Rattle.previous_gtids_event.specs.Previous.{tag_at, key_at, Head, head, head_at, interval_at, intervals_after, entry_at, says_tagged, says_count}
use Rattle.previous_gtids_event.specs.Previous.{entries_after, previous}
use Rattle.previous_gtids_event.specs.Answers.{previous_told, previous_read, header_told, header_read, entry_told}
use Rattle.previous_gtids_event.specs.Inside.{tag_told, tag_read, head_told, head_read, whole_told, whole_read}
use Rattle.previous_gtids_event.specs.declared.HeaderRead.{HeaderRead}
use Rattle.previous_gtids_event.specs.declared.PreviousRead.{PreviousRead}
use Rattle.previous_gtids_event.specs.declared.HeadRead.{HeadRead}
use Rattle.previous_gtids_event.specs.declared.EntryRead.{EntryRead}
use Rattle.std.specs.Prelude.{Result, Ok, Err}

-- ---- what a call over a body answers
module _ {A B : Type 0} (say : A → ℕ → B) (s : List ℕ) (p : Parse A) where
  pub too-long : 65536 < length s → Err too_long ≡ answered say (of_body s p)
  too-long h = ap (answered say) (sym (body-too-long s p h))

  module _ (short : length s ≤ 65536) where
    pub body-refused : {x : Refusal} → p ≡ refuse x → Err x ≡ answered say (of_body s p)
    body-refused e = ap (answered say) (sym (body-fits s p short ∙ e))

    pub body-read : {a : A} {next : ℕ} → p ≡ parsed a next → Ok (say a next) ≡ answered say (of_body s p)
    body-read e = ap (answered say) (sym (body-fits s p short ∙ e))

-- ---- intervals

-- the one at a place, and n from a place on
unfoldable pub interval_of : List ℕ → ℕ → Interval
interval_of s at = interval (le_of (part s at 8)) (le_of (part s (at + 8) 8))

unfoldable pub intervals_of : List ℕ → ℕ → ℕ → List Interval
intervals_of s zero at = []
intervals_of s (suc n) at = interval_of s at ∷ intervals_of s n (at + 16)

module _ (s : List ℕ) where
  pub interval-here : (at : ℕ) → at + 16 ≤ length s → interval_at s at ≡ parsed (interval_of s at) (at + 16)
  unfolding interval_at interval_of
  interval-here at h =
      let e : at + 8 + 8 ≡ at + 16 = omega arith in
      rw (le-here 8 s at (omega arith), le-here 8 s (at + 8) (omega arith), e)

  pub interval-gone : (at : ℕ) → length s < at + 16 → interval_at s at ≡ refuse ended
  unfolding interval_at
  interval-gone at h =
      split (at + 8) (length s)
      (λ k. rw (le-here 8 s at k, le-gone 8 s (at + 8) (omega arith)))
      (λ k. rw (le-gone 8 s at k))

  -- the same, from the reads of its two numbers
  pub interval-startless : (at : ℕ) {x : Refusal} → le_at 8 s at ≡ refuse x → interval_at s at ≡ refuse x
  unfolding interval_at
  interval-startless at e = rw e

  module _ (at : ℕ) {start m : ℕ} (first : le_at 8 s at ≡ parsed start m) where
    pub interval-endless : {x : Refusal} → le_at 8 s m ≡ refuse x → interval_at s at ≡ refuse x
    unfolding interval_at
    interval-endless e = rw (first, e)

    pub interval-whole : {end next : ℕ} → le_at 8 s m ≡ parsed end next → interval_at s at ≡ parsed (interval start end) next
    unfolding interval_at
    interval-whole e = rw (first, e)

  -- n intervals are there just if 16 n bytes are
  pub intervals-here : (n at : ℕ) → at + 16 * n ≤ length s → many (interval_at s) n at ≡ parsed (intervals_of s n at) (at + 16 * n)
  unfolding many intervals_of
  intervals-here zero at h = let e : at + 0 ≡ at = omega arith in rw e
  intervals-here (suc n) at h =
      let e : at + 16 * suc n ≡ at + 16 + 16 * n = omega arith in
      rw (interval-here at (omega arith), intervals-here n (at + 16) (omega arith), e)

  pub intervals-gone : (n at : ℕ) → at ≤ length s → length s < at + 16 * n → many (interval_at s) n at ≡ refuse ended
  unfolding many
  intervals-gone zero at i h = absurd (omega arith)
  intervals-gone (suc n) at i h =
      split (at + 16) (length s)
      (λ k. rw (interval-here at k, intervals-gone n (at + 16) k (omega arith)))
      (λ k. rw (interval-gone at k))

  pub length-intervals : (n at : ℕ) → length (intervals_of s n at) ≡ n
  unfolding intervals_of
  length-intervals zero at = refl
  length-intervals (suc n) at = ap suc (length-intervals n (at + 16))

  pub intervals-parsed : (n at : ℕ) (is : List Interval) (next : ℕ) → at ≤ length s → many (interval_at s) n at ≡ parsed is next
      → (length is ≡ n) × (intervals_of s n at ≡ is) × (next ≡ at + 16 * n) × (next ≤ length s)
  intervals-parsed n at is next i e =
      split (at + 16 * n) (length s)
      (λ h.
      let p : parsed (intervals_of s n at) (at + 16 * n) ≡ parsed is next = sym (intervals-here n at h) ∙ e in
      let same : intervals_of s n at ≡ is = cc in
      let end : at + 16 * n ≡ next = cc in
      (ap length (sym same) ∙ length-intervals n at, same, sym end, omega arith))
      (λ h. never (sym (intervals-gone n at i h) ∙ e))

-- ---- tags
module _ (tagged : Bool) (s : List ℕ) (at : ℕ) where
  pub untagged : tagged ≡ false → tag_at tagged s at ≡ parsed [] at
  unfolding tag_at
  untagged none = rw none

  module _ (wanted : tagged ≡ true) where
    pub tag-unsized : {x : Refusal} → varlen_at s at ≡ refuse x → tag_at tagged s at ≡ refuse x
    unfolding tag_at
    tag-unsized e = rw (wanted, e)

    module _ (n from : ℕ) (is : varlen_at s at ≡ parsed n from) where
      pub tag-cut : length s < from + n → tag_at tagged s at ≡ refuse ended
      unfolding tag_at
      tag-cut h = rw (wanted, is, bytes-gone n s from h)

      pub tag-bad : from + n ≤ length s → none_or_tag (part s from n) ≡ false → tag_at tagged s at ≡ refuse bad_tag
      unfolding tag_at
      tag-bad h e = rw (wanted, is, bytes-here n s from h, e)

      tag-here : from + n ≤ length s → none_or_tag (part s from n) ≡ true → tag_at tagged s at ≡ parsed (part s from n) (from + n)
      unfolding tag_at
      tag-here h e = rw (wanted, is, bytes-here n s from h, e)

      pub tag-answer : from + n ≤ length s → none_or_tag (part s from n) ≡ true
          → Ok (record { value = n; next = from + n }) ≡ tag_read (tag_at tagged s at)
      tag-answer h e = rw (tag-here h e, part_length n s from h)

-- a tag that was read is the bytes before the next place
pub record TagThere (s : List ℕ) (at : ℕ) (t : List ℕ) (next : ℕ) : Type 0 where
  pub after : at + length t ≤ next
  pub bytes : part s (next - length t) (length t) ≡ t
  pub rule : none_or_tag t ≡ true
  pub short : length t ≤ 32
  pub inside : next ≤ length s

pub tag_there : (tagged : Bool) (s : List ℕ) (at : ℕ) (t : List ℕ) (next : ℕ) → at ≤ length s
    → tag_at tagged s at ≡ parsed t next → TagThere s at t next
unfolding tag_at
tag_there false s at t next h e =
    let n : [] ≡ t = cc in
    let m : at ≡ next = cc in
    rw (← n, ← m) (record { after = omega arith; bytes = refl; rule = refl; short = omega arith; inside = h })
tag_there true s at t next h e =
    let (p, rule) = judged-parsed none_or_tag bad_tag _ t next e in
    let (n, from, size, whole) = then-parsed (varlen_at s at) _ t next p in
    let i = varlen-forward s at size in
    let j = bytes-parsed n s from t next whole in
    let all : length t ≡ n = ap length (sym j.1) ∙ part_length n s from j.0 in
    let start : next - length t ≡ from = omega arith in
    record {
      after = omega arith;
      bytes = rw (start, all) j.1;
      rule = rule;
      short = none-or-tag-short t rule;
      inside = omega arith;
    }

-- ---- keys and heads
pub uuid-of : (u t : List ℕ) → length u ≡ 16 → uuid_of (u ++ t) ≡ u
unfolding uuid_of
uuid-of u t h = take_at u t 16 h

pub tag-of : (u t : List ℕ) → length u ≡ 16 → tag_of (u ++ t) ≡ t
unfolding tag_of
tag-of u t h = drop_at u t 16 h

pub key-whole : (k : Key) → k ≡ uuid_of k ++ tag_of k
unfolding uuid_of tag_of
key-whole k = sym (take-append-drop 16 k)

module _ (tagged : Bool) (s : List ℕ) (at : ℕ) where
  pub head-gone : length s < at + 16 → head_at tagged s at ≡ refuse ended
  unfolding head_at key_at
  head-gone h = rw (bytes-gone 16 s at h)

  module _ (uuid : at + 16 ≤ length s) where
    pub head-untagged : {x : Refusal} → tag_at tagged s (at + 16) ≡ refuse x → head_at tagged s at ≡ refuse x
    unfolding head_at key_at
    head-untagged e = rw (bytes-here 16 s at uuid, e)

    module _ (t : List ℕ) (m : ℕ) (tag : tag_at tagged s (at + 16) ≡ parsed t m) where
      pub head-uncounted : {x : Refusal} → le_at 8 s m ≡ refuse x → head_at tagged s at ≡ refuse x
      unfolding head_at key_at
      head-uncounted e = rw (bytes-here 16 s at uuid, tag, e)

      pub head-here : (n first : ℕ) → le_at 8 s m ≡ parsed n first → head_at tagged s at ≡ parsed (head (part s at 16 ++ t) n) first
      unfolding head_at key_at
      head-here n first e = rw (bytes-here 16 s at uuid, tag, e)

-- a head that was read: the uuid, the tag behind it, and the count in the eight bytes before the first interval
pub record HeadThere (tagged : Bool) (s : List ℕ) (at : ℕ) (k : Key) (n first : ℕ) : Type 0 where
  pub uuid : uuid_of k ≡ part s at 16
  pub tag_is : tag_at tagged s (at + 16) ≡ parsed (tag_of k) (first - 8)
  pub tag : TagThere s (at + 16) (tag_of k) (first - 8)
  pub count-is : le_at 8 s (first - 8) ≡ parsed n first
  pub eight : 8 ≤ first
  pub inside : first ≤ length s

pub head-there : (tagged : Bool) (s : List ℕ) (at : ℕ) (k : Key) (n first : ℕ) → head_at tagged s at ≡ parsed (head k n) first
    → HeadThere tagged s at k n first
unfolding head_at key_at
head-there tagged s at k n first e =
    let (key, m, p, q) = then-parsed (key_at tagged s at) _ (head k n) first e in
    let (count, l, same) = mapped-parsed (head key) (le_at 8 s m) (head k n) first q in
    let (u, m₁, p₁, p₂) = then-parsed (bytes_at 16 s at) _ key m p in
    let (t, tag, key-is) = mapped-parsed (λ (x : List ℕ). u ++ x) (tag_at tagged s m₁) key m p₂ in
    let b = bytes-parsed 16 s at u m₁ p₁ in
    let all : length u ≡ 16 = ap length (sym b.1) ∙ part_length 16 s at b.0 in
    let k-is : k ≡ u ++ t = cc in
    let n-is : count ≡ n = cc in
    let u-is : uuid_of k ≡ u = ap uuid_of k-is ∙ uuid-of u t all in
    let t-is : tag_of k ≡ t = ap tag_of k-is ∙ tag-of u t all in
    let f = le-forward s m 8 l in
    let m-is : first - 8 ≡ m = omega arith in
    let tag_is : tag_at tagged s (at + 16) ≡ parsed (tag_of k) (first - 8) = cc in
    record {
      uuid = u-is ∙ sym b.1;
      tag_is = tag_is;
      tag = tag_there tagged s (at + 16) (tag_of k) (first - 8) b.0 tag_is;
      count-is = cc;
      eight = omega arith;
      inside = f.1;
    }

-- ---- entries
module _ (tagged : Bool) (s : List ℕ) (at : ℕ) where
  pub entry-headless : {x : Refusal} → head_at tagged s at ≡ refuse x → entry_at tagged s at ≡ refuse x
  unfolding entry_at
  entry-headless e = rw e

  module _ (k : Key) (n first : ℕ) (is : head_at tagged s at ≡ parsed (head k n) first) where
    pub entry-cut : first ≤ length s → length s < first + 16 * n → entry_at tagged s at ≡ refuse ended
    unfolding entry_at
    entry-cut i h = rw (is, intervals-gone s n first i h)

    pub entry_here : first + 16 * n ≤ length s → entry_at tagged s at ≡ parsed (entry k (intervals_of s n first)) (first + 16 * n)
    unfolding entry_at
    entry_here h = rw (is, intervals-here s n first h)

-- an entry that was read: its head, and the intervals up to the next place
pub record EntryThere (tagged : Bool) (s : List ℕ) (at : ℕ) (k : Key) (is : List Interval) (next : ℕ) : Type 0 where
  pub first : ℕ
  pub head : HeadThere tagged s at k (length is) first
  pub intervals : intervals_of s (length is) first ≡ is
  pub end : next ≡ first + 16 * length is
  pub inside : next ≤ length s

pub entry-there : (tagged : Bool) (s : List ℕ) (at : ℕ) (k : Key) (is : List Interval) (next : ℕ)
    → entry_at tagged s at ≡ parsed (entry k is) next → EntryThere tagged s at k is next
unfolding entry_at
entry-there tagged s at k is next e =
    let (h, first, p, q) = then-parsed (head_at tagged s at) (intervals_after s) (entry k is) next e in
    go h first p q
  where
    go : (h : Head) (first : ℕ) → head_at tagged s at ≡ parsed h first → intervals_after s h first ≡ parsed (entry k is) next
        → EntryThere tagged s at k is next
    go (head key n) first p q =
        let (found, m, same) = mapped-parsed (entry key) (many (interval_at s) n first) (entry k is) next q in
        let there = head-there tagged s at key n first p in
        let i = intervals-parsed s n first found next there.inside m in
        let all : length is ≡ n = cc in
        let key-is : key ≡ k = cc in
        record {
          first = first;
          head = rw (← key-is, all) there;
          intervals = rw all (cc i.1);
          end = rw all i.2;
          inside = i.3;
        }

-- ---- the whole body
module _ (s : List ℕ) where
  pub headless : {x : Refusal} → Err x ≡ header_read (of_body s (le_at 8 s 0)) → previous s ≡ refuse x
  unfolding previous
  headless e =
      body-then s (le_at 8 s 0) (entries_after s)
      ∙ ap (λ (q : Parse ℕ). and_then q (entries_after s)) (answered-err header_told (of_body s (le_at 8 s 0)) e)

  pub headed : {r : HeaderRead} → Ok r ≡ header_read (of_body s (le_at 8 s 0))
      → (previous s ≡ many (entry_at r.tagged s) r.entries 8) × (8 ≤ length s) × (length s ≤ 65536)
  unfolding previous
  headed {r} is =
      let (h, next, e, told) = answered-ok header_told (of_body s (le_at 8 s 0)) is in
      let small : length s ≤ 65536 =
      split (length s) 65536 (λ k. k) (λ k. never (sym (body-too-long s (le_at 8 s 0) k) ∙ e)) in
      let f = le-forward s 0 8 (sym (body-fits s (le_at 8 s 0) small) ∙ e) in
      let eight : next ≡ 8 = omega arith in (
        body-then s (le_at 8 s 0) (entries_after s)
            ∙ ap (λ (q : Parse ℕ). and_then q (entries_after s)) e
            ∙ ap (λ (n : ℕ). many (entry_at (says_tagged h) s) (says_count h) n) eight
            ∙ sym (ap (λ (y : HeaderRead). many (entry_at y.tagged s) y.entries 8) told),
        omega arith,
        small,
      )

-- what is read ends within the body
many-inside : {A : Type 0} (l : ℕ) (item : ℕ → Parse A) → ((at : ℕ) (a : A) (next : ℕ) → item at ≡ parsed a next → next ≤ l)
    → (n at : ℕ) (items : List A) (next : ℕ) → at ≤ l → many item n at ≡ parsed items next → next ≤ l
unfolding many
many-inside l item inside zero at items next h e = let m : at ≡ next = cc in omega arith
many-inside l item inside (suc n) at items next h e =
    let (a, m, p, q) = then-parsed (item at) _ items next e in
    let (rest, last, q₁, q₂) = then-parsed (many item n m) _ items next q in
    let same : last ≡ next = cc in
    let end = many-inside l item inside n m rest last (inside at a m p) q₁ in
    omega arith

-- and it has as many items as were to be read
pub many-length : {A : Type 0} (item : ℕ → Parse A) (n at : ℕ) (items : List A) (next : ℕ) → many item n at ≡ parsed items next → length items ≡ n
unfolding many
many-length item zero at items next e = let none : [] ≡ items = cc in ap length (sym none)
many-length item (suc n) at items next e =
    let (a, m, p, q) = then-parsed (item at) _ items next e in
    let (rest, last, q₁, q₂) = then-parsed (many item n m) _ items next q in
    let all : a ∷ rest ≡ items = cc in
    ap length (sym all) ∙ ap suc (many-length item n m rest last q₁)

entry-inside : (tagged : Bool) (s : List ℕ) (at : ℕ) (e : Entry) (next : ℕ) → entry_at tagged s at ≡ parsed e next → next ≤ length s
entry-inside tagged s at (entry k is) next e = (entry-there tagged s at k is next e).inside

pub previous-parts : (s : List ℕ) (es : List Entry) (next : ℕ) → previous s ≡ parsed es next
    → (header : ℕ) × (le_at 8 s 0 ≡ parsed header 8) × (many (entry_at (says_tagged header) s) (says_count header) 8 ≡ parsed es next)
    × (8 ≤ length s) × (length s ≤ 65536)
unfolding previous body_limit
previous-parts s es next e =
    let (small, p) = pick-parsed (leb (length s) body_limit) _ too_long es next e in
    let (header, m, l, q) = then-parsed (le_at 8 s 0) (entries_after s) es next p in
    let f = le-forward s 0 8 l in
    let eight : m ≡ 8 = omega arith in (
      header,
      l ∙ ap (parsed header) eight,
      ap (many (entry_at (says_tagged header) s) (says_count header)) (sym eight) ∙ q,
      omega arith,
      leb-true (length s) 65536 small,
    )

pub previous-inside : (s : List ℕ) (es : List Entry) (next : ℕ) → previous s ≡ parsed es next → next ≤ length s
previous-inside s es next e =
    let (header, l, p, room, small) = previous-parts s es next e in
    many-inside (length s) (entry_at (says_tagged header) s) (entry-inside (says_tagged header) s) (says_count header) 8 es next room p

pub used-inside : (s : List ℕ) {r : PreviousRead} → Ok r ≡ previous_read (previous s) → r.used ≤ length s
used-inside s is =
    let (es, next, e, told) = answered-ok previous_told (previous s) is in
    omega (arith, previous-inside s es next e, ap (λ (y : PreviousRead). y.used) told)

-- ---- from the answers for the parts of an entry
module _ (tagged : Bool) (s : List ℕ) (at : ℕ) where
  -- the tag and the count make the head
  module _ (uuid : at + 16 ≤ length s) (r : Read ℕ) (tag : Ok r ≡ tag_read (tag_at tagged s (at + 16))) where
    pub count-refused : {x : Refusal} → le_at 8 s r.next ≡ refuse x → head_at tagged s at ≡ refuse x
    count-refused gone =
        let (t, m, e, told) = answered-ok tag_told (tag_at tagged s (at + 16)) tag in
        head-uncounted tagged s at uuid t m e (ap (λ (y : Read ℕ). le_at 8 s y.next) (sym told) ∙ gone)

    pub head-answer : {n first : ℕ} → le_at 8 s r.next ≡ parsed n first
        → Ok (record { tag_len = r.value; intervals = n; first = first }) ≡ head_read (head_at tagged s at)
    head-answer {n} {first} count =
        let (t, m, e, told) = answered-ok tag_told (tag_at tagged s (at + 16)) tag in
        let here = head-here tagged s at uuid t m e n first (ap (λ (y : Read ℕ). le_at 8 s y.next) (sym told) ∙ count) in
        let len : r.value ≡ length (tag_of (part s at 16 ++ t)) =
        ap (λ (y : Read ℕ). y.value) told ∙ ap length (sym (tag-of (part s at 16) t (part_length 16 s at uuid))) in
        ap laid len ∙ sym (ap head_read here)
      where
        laid : ℕ → Result HeadRead Refusal
        laid l = Ok (record { tag_len = l; intervals = n; first = first })

  -- the head and the intervals behind it make the entry
  module _ (r : HeadRead) (is : Ok r ≡ head_read (head_at tagged s at)) where
    head-key : (k : Key) × (head_at tagged s at ≡ parsed (head k r.intervals) r.first) × (r.tag_len ≡ length (tag_of k))
    head-key =
        let (h, first, e, told) = answered-ok head_told (head_at tagged s at) is in
        go h first e told
      where
        go : (h : Head) (first : ℕ) → head_at tagged s at ≡ parsed h first → r ≡ head_told h first
            → (k : Key) × (head_at tagged s at ≡ parsed (head k r.intervals) r.first) × (r.tag_len ≡ length (tag_of k))
        go (head k n) first e told = (
          k,
          e ∙ sym (ap (λ (y : HeadRead). parsed (head k y.intervals) y.first) told),
          ap (λ (y : HeadRead). y.tag_len) told,
        )

    pub head-inside : r.first ≤ length s
    head-inside = (head-there tagged s at head-key.0 r.intervals r.first head-key.1).inside

    pub whole-cut : length s < r.first + 16 * r.intervals → entry_at tagged s at ≡ refuse ended
    whole-cut h = entry-cut tagged s at head-key.0 r.intervals r.first head-key.1 head-inside h

    pub whole-answer : r.first + 16 * r.intervals ≤ length s
        → Ok (record { value = r; next = r.first + 16 * r.intervals }) ≡ whole_read (entry_at tagged s at)
    whole-answer h =
        let (k, e, len) = head-key in
        let start : r.first + 16 * r.intervals - 16 * r.intervals ≡ r.first = omega arith in
        rw (entry_here tagged s at k r.intervals r.first e h, length-intervals s r.intervals r.first, start, ← len)

-- what the answer for a whole entry tells
pub record WholeTold (tagged : Bool) (s : List ℕ) (at : ℕ) (r : Read HeadRead) : Type 0 where
  pub key : Key
  pub list : List Interval
  pub is : entry_at tagged s at ≡ parsed (entry key list) r.next
  pub there : EntryThere tagged s at key list r.next
  pub tag-len : r.value.tag_len ≡ length (tag_of key)
  pub count : r.value.intervals ≡ length list
  pub first : r.value.first ≡ there.first

pub whole-told : (tagged : Bool) (s : List ℕ) (at : ℕ) (r : Read HeadRead) → Ok r ≡ whole_read (entry_at tagged s at) → WholeTold tagged s at r
whole-told tagged s at r is =
    let (e, next, p, told) = answered-ok whole_told (entry_at tagged s at) is in
    go e next p told
  where
    go : (e : Entry) (next : ℕ) → entry_at tagged s at ≡ parsed e next → r ≡ whole_told e next → WholeTold tagged s at r
    go (entry k is) next p told =
        let end : r.next ≡ next = ap (λ (y : Read HeadRead). y.next) told in
        let whole : entry_at tagged s at ≡ parsed (entry k is) r.next = p ∙ ap (parsed (entry k is)) (sym end) in
        let there = entry-there tagged s at k is r.next whole in
        let first : r.value.first ≡ next - 16 * length is = ap (λ (y : Read HeadRead). y.value.first) told in
        record {
          key = k;
          list = is;
          is = whole;
          there = there;
          tag-len = ap (λ (y : Read HeadRead). y.value.tag_len) told;
          count = ap (λ (y : Read HeadRead). y.value.intervals) told;
          first = omega (arith, there.end);
        }

-- the parts of an entry lie in the body, one behind the other
pub whole-places : {tagged : Bool} {s : List ℕ} {at : ℕ} {r : Read HeadRead} → WholeTold tagged s at r
    → (at + 24 + r.value.tag_len ≤ r.value.first) × (r.next ≡ r.value.first + 16 * r.value.intervals) × (r.next ≤ length s)
whole-places told =
    let there = told.there in (
      omega (arith, told.first, told.tag-len, there.head.tag.after, there.head.eight),
      omega (arith, told.first, told.count, there.end),
      there.inside,
    )

-- a uuid and a tag as records keep them
kept-short : (w : ℕ) (bs : List ℕ) → length bs ≤ w → kept w bs ≡ padded w bs
kept-short w bs h = rw (take_all w bs h)

-- the entry's answer, from its parts
pub entry-answer : (tagged : Bool) (s : List ℕ) (at : ℕ) (r : Read HeadRead) (told : WholeTold tagged s at r) (uuid tag : List ℕ)
    → uuid ≡ kept 16 (drop at s) → tag ≡ kept 32 (part s (r.value.first - 8 - r.value.tag_len) r.value.tag_len)
    → record { uuid = uuid; tag = tag; tag_len = r.value.tag_len; intervals = r.value.intervals; first = r.value.first; next = r.next }
    ≡ entry_told (entry told.key told.list) r.next
entry-answer tagged s at r told uuid tag u g =
    let k = told.key in
    let head = told.there.head in
    let there = head.tag in
    let first : r.value.first ≡ r.next - 16 * length told.list = omega (arith, told.first, told.there.end) in
    let room : at + 16 ≤ length s = omega (arith, there.after, there.inside) in
    let u-is : uuid ≡ uuid_of k = u ∙ kept_full 16 (drop at s) (part_length 16 s at room) ∙ sym head.uuid in
    let t-is : part s (r.value.first - 8 - r.value.tag_len) r.value.tag_len ≡ tag_of k = rw (told.first, told.tag-len) there.bytes in
    let g-is : tag ≡ padded 32 (tag_of k) = g ∙ ap (kept 32) t-is ∙ kept-short 32 (tag_of k) there.short in
    fields uuid (uuid_of k) u-is tag (padded 32 (tag_of k)) g-is r.value.tag_len (length (tag_of k)) told.tag-len
    r.value.intervals (length told.list) told.count
    r.value.first (r.next - 16 * length told.list) first
  where
    fields : (a b : List ℕ) → a ≡ b → (c d : List ℕ) → c ≡ d → (e f : ℕ) → e ≡ f → (g h : ℕ) → g ≡ h → (i j : ℕ) → i ≡ j
        → ◌≡◌ {A = EntryRead}
        (record { uuid = a; tag = c; tag_len = e; intervals = g; first = i; next = r.next })
        (record { uuid = b; tag = d; tag_len = f; intervals = h; first = j; next = r.next })
    fields a b p c d q e f x g h y i j z = rw (p, q, x, y, z)
