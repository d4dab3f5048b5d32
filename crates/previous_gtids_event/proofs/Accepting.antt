-- What is read is laid out (`specs/Layout.antt`): what was found at a place, up to the next.
use mathlib.Core.Path.{◌≡◌, refl, sym, ap, subst, ◌∙◌}
use mathlib.Core.Bool.{Bool, true, false}
use mathlib.Core.List.{List, [], ◌∷◌, ◌++◌, append_assoc}
use Prim.Native.Nat.{ℕ, zero, suc, ◌+◌, ◌≤◌}
use native.Mathlib.Omega.{arith}
use lib.ListN.{length, take, drop, get_or, drop_of_length-le}
use lib.Seq.{split_at, length-take-le}
use Rattle.misc.specs.Refusal.{bad_tag}
use Rattle.misc.specs.Parse.{Bytes, parsed, many, part, bytes_at}
use Rattle.misc.specs.Le.{le_of, le_at}
use Rattle.misc.specs.Varlen.{varlen_at}
use Rattle.misc.specs.Forms.{Number, Form}
use Rattle.misc.proofs.ParseLaws.{then-parsed, mapped-parsed, judged-parsed, bytes-parsed, part_length}
use Rattle.misc.proofs.Bounds.{front_bytes}
use Rattle.misc.proofs.Places.{Found, part-from, found-both}
use Rattle.misc.proofs.Accepted.{form-read, number-found}
use Rattle.packets.specs.Gno.{Interval, interval}
use Rattle.packets.specs.Key.{Key}
use Rattle.previous_gtids_event.specs.Entry.{Entry, entry}
use Rattle.packets.specs.Tag.{none_or_tag}
use Rattle.previous_gtids_event.specs.Previous.{tag_at, key_at, Head, head, head_at, interval_at, intervals_after, entry_at, says_tagged, says_count}
use Rattle.previous_gtids_event.specs.Layout.{HeaderLaid, TagLaid, IntervalsLaid, EntryLaid, EntriesLaid}
use Rattle.previous_gtids_event.proofs.Reading.{intervals-parsed}
use Rattle.previous_gtids_event.proofs.Laying.{header-meant}

-- ---- the header: any eight bytes are one

by-top : (bottom : ℕ) (count : List ℕ) (top : ℕ) → length count ≡ 6 → (t : Bool) × (n : ℕ) × HeaderLaid t n (bottom ∷ (count ++ (top ∷ [])))
by-top bottom count zero six = (false, le_of (bottom ∷ count), HeaderLaid.plain {count = bottom ∷ count} (record { long = omega arith; spells = refl }))
by-top bottom count (suc k) six = (true, le_of count, HeaderLaid.tagged bottom (suc k) (record { long = six; spells = refl }) (omega arith))

some-header : (bs : List ℕ) → length bs ≡ 8 → (t : Bool) × (n : ℕ) × HeaderLaid t n bs
some-header [] e = absurd (omega arith)
some-header (b ∷ bs) e =
    let none : drop 7 bs ≡ [] = drop_of_length-le bs {i = 7} (omega arith) in
    let whole : bs ≡ take 6 bs ++ (get_or bs 6 0 ∷ []) = split_at bs 6 0 (omega arith) ∙ ap (λ (l : List ℕ). take 6 bs ++ (get_or bs 6 0 ∷ l)) none in
    rw whole (by-top b (take 6 bs) (get_or bs 6 0) (length-take-le 6 bs (omega arith)))

pub header-spelt : (h : ℕ) (bs : List ℕ) → length bs ≡ 8 → le_of bs ≡ h → Bytes bs → HeaderLaid (says_tagged h) (says_count h) bs
header-spelt h bs eight spelt are =
    let (t, n, laid) = some-header bs eight in
    let (_, tagged, count) = header-meant laid are in
    rw (← spelt, tagged, count) laid

module _ (s : List ℕ) (are : Bytes s) where
  pub header-found : (h : ℕ) → le_at 8 s 0 ≡ parsed h 8 → Found (HeaderLaid (says_tagged h) (says_count h)) s 0 8
  header-found h e =
      let x = number-found s 8 0 h 8 e in
      let bytes : Bytes x.bytes = front_bytes x.bytes (drop 8 s) (subst Bytes x.is are) in
      record { bytes = x.bytes; holds = header-spelt h x.bytes x.holds.long x.holds.spells bytes; is = x.is; inside = x.inside }

  -- ---- intervals

  interval-parts : (at : ℕ) (i : Interval) (next : ℕ) → interval_at s at ≡ parsed i next
      → (start : ℕ) × (end : ℕ) × (m : ℕ) × (le_at 8 s at ≡ parsed start m) × (le_at 8 s m ≡ parsed end next) × (i ≡ interval start end)
  unfolding interval_at
  interval-parts at i next e =
      let (start, m, p, q) = then-parsed (le_at 8 s at) _ i next e in
      let (end, r, same) = mapped-parsed (interval start) (le_at 8 s m) i next q in
      (start, end, m, p, r, same)

  intervals-found : (n at : ℕ) (is : List Interval) (next : ℕ) → at ≤ length s → many (interval_at s) n at ≡ parsed is next
      → Found (IntervalsLaid is) s at next
  unfolding many
  intervals-found zero at is next h e =
      let none : [] ≡ is = cc in
      let same : at ≡ next = cc in
      rw (← none, ← same) (record { bytes = []; holds = IntervalsLaid.none; is = refl; inside = h })
  intervals-found (suc n) at is next h e =
      let (i, m, p, q) = then-parsed (interval_at s at) _ is next e in
      let (rest, last, r, t) = then-parsed (many (interval_at s) n m) _ is next q in
      let (start, end, k, a, b, same) = interval-parts at i m p in
      let first = number-found s 8 at start k a in
      let second = number-found s 8 k end m b in
      go start end k m rest last first second (intervals-found n m rest last second.inside r) (cc) (cc)
    where
      go : (start end k m : ℕ) (rest : List Interval) (last : ℕ) → Found (Number 8 start) s at k → Found (Number 8 end) s k m
          → Found (IntervalsLaid rest) s m last → interval start end ∷ rest ≡ is → last ≡ next → Found (IntervalsLaid is) s at next
      go start end k m rest last first second others list place = rw (← list, ← place) (record {
        bytes = first.bytes ++ (second.bytes ++ others.bytes);
        holds = IntervalsLaid.more first.holds second.holds others.holds;
        is = first.is ∙ ap (λ (l : List ℕ). first.bytes ++ l) (second.is ∙ ap (λ (l : List ℕ). second.bytes ++ l) others.is) ∙ simp append_assoc;
        inside = others.inside;
      })

  -- ---- keys

  tag-found : (tagged : Bool) (at : ℕ) (t : List ℕ) (next : ℕ) → at ≤ length s → tag_at tagged s at ≡ parsed t next → Found (TagLaid tagged t) s at next
  unfolding tag_at
  tag-found false at t next h e =
      let none : [] ≡ t = cc in
      let same : at ≡ next = cc in
      rw (← none, ← same) (record { bytes = []; holds = TagLaid.untagged; is = refl; inside = h })
  tag-found true at t next h e =
      let (p, good) = judged-parsed none_or_tag bad_tag _ t next e in
      let (n, m, size, whole) = then-parsed (varlen_at s at) (λ n from. bytes_at n s from) t next p in
      go n m size whole good
    where
      go : (n m : ℕ) → varlen_at s at ≡ parsed n m → bytes_at n s m ≡ parsed t next → none_or_tag t ≡ true → Found (TagLaid true t) s at next
      go n m size whole good =
          let (room, these, end) = bytes-parsed n s m t next whole in
          let long : length t ≡ n = ap length (sym these) ∙ part_length n s m room in
          let x = form-read s are at n m size in
          let form : Form (length t) x.bytes = rw long x.holds in
          record {
            bytes = x.bytes ++ t;
            holds = TagLaid.sized form good;
            is = x.is ∙ rw (part-from s m n, these, end) (sym (append_assoc x.bytes t (drop next s)));
            inside = omega arith;
          }

-- a key that was read, and a head
pub record KeyFound (tagged : Bool) (s : List ℕ) (at : ℕ) (k : Key) (next : ℕ) : Type 0 where
  pub room : at + 16 ≤ length s
  pub tag : List ℕ
  pub is : k ≡ part s at 16 ++ tag
  pub laid : Found (TagLaid tagged tag) s (at + 16) next

pub record HeadFound (tagged : Bool) (s : List ℕ) (at : ℕ) (k : Key) (n next : ℕ) : Type 0 where
  pub m : ℕ
  pub key : KeyFound tagged s at k m
  pub count : Found (Number 8 n) s m next

module _ (s : List ℕ) (are : Bytes s) (tagged : Bool) where
  pub key-found : (at : ℕ) (k : Key) (m : ℕ) → key_at tagged s at ≡ parsed k m → KeyFound tagged s at k m
  unfolding key_at
  key-found at k m e =
      let (u, to, p, q) = then-parsed (bytes_at 16 s at) _ k m e in
      let (t, read, same) = mapped-parsed (λ (x : List ℕ). u ++ x) (tag_at tagged s to) k m q in
      let (room, these, end) = bytes-parsed 16 s at u to p in
      record { room = room; tag = t; is = rw these same; laid = tag-found s are tagged (at + 16) t m room (rw end read) }

  pub head-found : (at : ℕ) (k : Key) (n first : ℕ) → head_at tagged s at ≡ parsed (head k n) first → HeadFound tagged s at k n first
  unfolding head_at
  head-found at k n first e =
      let (key, m, p, q) = then-parsed (key_at tagged s at) _ (head k n) first e in
      let (count, read, same) = mapped-parsed (head key) (le_at 8 s m) (head k n) first q in
      let n-is : count ≡ n = cc in
      let k-is : key ≡ k = cc in
      record { m = m; key = rw k-is at (key-found at key m p); count = rw n-is at (number-found s 8 m count first read) }

  -- from the entry's start to the intervals
  pub head-whole : {at : ℕ} {k : Key} {n first : ℕ} (h : HeadFound tagged s at k n first)
      → drop at s ≡ part s at 16 ++ (h.key.laid.bytes ++ (h.count.bytes ++ drop first s))
  head-whole {at = at} h =
      part-from s at 16 ∙ ap (λ (l : List ℕ). part s at 16 ++ l)
      (h.key.laid.is ∙ ap (λ (l : List ℕ). h.key.laid.bytes ++ l) h.count.is)

  -- ---- entries

  entry_found : (at : ℕ) (e : Entry) (next : ℕ) → entry_at tagged s at ≡ parsed e next → Found (EntryLaid tagged e) s at next
  unfolding entry_at
  entry_found at e next read =
      let (h, first, p, q) = then-parsed (head_at tagged s at) (intervals_after s) e next read in
      go h first p q
    where
      as_read : (u tag : List ℕ) {k : Key} {is : List Interval} → e ≡ entry k is → k ≡ u ++ tag → Found (EntryLaid tagged (entry (u ++ tag) is)) s at next
          → Found (EntryLaid tagged e) s at next
      as_read u tag same key found = rw (same, key) found

      go : (h : Head) (first : ℕ) → head_at tagged s at ≡ parsed h first → intervals_after s h first ≡ parsed e next → Found (EntryLaid tagged e) s at next
      go (head k n) first p q =
          let (is, list, same) = mapped-parsed (entry k) (many (interval_at s) n first) e next q in
          let x = head-found at k n first p in
          let size = (intervals-parsed s n first is next x.count.inside list).0 in
          let intervals = intervals-found s are n first is next x.count.inside list in
          let counted : Number 8 (length is) x.count.bytes = rw size x.count.holds in
          as_read (part s at 16) x.key.tag same x.key.is (record {
            bytes = part s at 16 ++ (x.key.laid.bytes ++ (x.count.bytes ++ intervals.bytes));
            holds = EntryLaid.parts (part s at 16) (part_length 16 s at x.key.room) x.key.laid.holds counted intervals.holds;
            is = head-whole x ∙ ap (λ (l : List ℕ). part s at 16 ++ (x.key.laid.bytes ++ (x.count.bytes ++ l))) intervals.is ∙ simp append_assoc;
            inside = intervals.inside;
          })

  pub entries-found : (n at : ℕ) (es : List Entry) (next : ℕ) → at ≤ length s → many (entry_at tagged s) n at ≡ parsed es next
      → (length es ≡ n) × Found (EntriesLaid tagged es) s at next
  unfolding many
  entries-found zero at es next h e =
      let none : [] ≡ es = cc in
      let same : at ≡ next = cc in
      rw (← none, ← same) (refl, record { bytes = []; holds = EntriesLaid.none; is = refl; inside = h })
  entries-found (suc n) at es next h e =
      let (one, m, p, q) = then-parsed (entry_at tagged s at) _ es next e in
      let (rest, last, r, t) = then-parsed (many (entry_at tagged s) n m) _ es next q in
      let first = entry_found at one m p in
      go one m rest last first (entries-found n m rest last first.inside r) (cc) (cc)
    where
      go : (one : Entry) (m : ℕ) (rest : List Entry) (last : ℕ) → Found (EntryLaid tagged one) s at m
          → (length rest ≡ n) × Found (EntriesLaid tagged rest) s m last → one ∷ rest ≡ es → last ≡ next
          → (length es ≡ suc n) × Found (EntriesLaid tagged es) s at next
      go one m rest last first (size, others) list place =
          rw (← list, ← place) (ap suc size, found-both s (λ a b x y. EntriesLaid.more x y) first others)
