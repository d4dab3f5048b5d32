-- Reading and rewriting whole bodies: reading accepts exactly the bodies that are laid out (`specs/Layout.antt`), what is rewritten reads as
-- the same entries and is no longer than what was read, and rewriting again changes nothing.
use mathlib.Core.Path.{◌≡◌, refl, sym, ap, subst, ◌∙◌}
use mathlib.Core.Bool.{Bool, true, false, ◌||◌}
use mathlib.Core.List.{List, [], ◌∷◌, ◌++◌, append_assoc, append-nil}
use Prim.Native.Nat.{ℕ, ◌+◌, ◌*◌, ◌/◌, ◌%◌, ◌^◌, ◌≤◌, ◌<◌}
use native.Mathlib.Omega.{arith}
use lib.Dec.{ltb}
use lib.ListN.{length, drop, length-append}
use borrow.Author.Tests.{ltb-false}
use Rattle.misc.specs.Parse.{Bytes, Parse, refuse, parsed, part}
use Rattle.misc.specs.Body.{of_body}
use Rattle.misc.specs.Le.{le_of, le_bytes, le_at}
use Rattle.misc.specs.Varlen.{varlen_size, varlen_bytes}
use Rattle.misc.specs.Output.{bytes}
use Rattle.misc.proofs.ParseLaws.{split, ok-err}
use Rattle.misc.proofs.BodyLaws.{body-fits}
use Rattle.misc.proofs.LeLaws.{le-here, le-gone, length-le_bytes, le_of-le_bytes}
use Rattle.misc.proofs.Bounds.{front_bytes, behind-bytes, le_bytes-bytes}
use Rattle.misc.proofs.Places.{From, from_start, Found, found-size}
use Rattle.misc.proofs.FormsRead.{form-some}
use Rattle.misc.proofs.Accepted.{number-written, varlen-form}
use Rattle.misc.proofs.VarlenLaws.{size-found, length-varlen_bytes}
use Rattle.packets.specs.Gno.{Interval, interval}
use Rattle.packets.specs.Key.{Key}
use Rattle.packets.proofs.Tests.{clash}
use Rattle.previous_gtids_event.specs.Entry.{Entry, entry, uuid_of, tag_of}
use Rattle.packets.specs.Tag.{none_or_tag}
use Rattle.previous_gtids_event.specs.Previous.{says_tagged, says_count, entries_in, previous}
use Rattle.previous_gtids_event.specs.Answers.{header_told, header_read}
use Rattle.std.specs.Prelude.{Ok}
use Rattle.previous_gtids_event.specs.declared.HeaderRead.{HeaderRead}
use Rattle.previous_gtids_event.specs.Layout.{HeaderLaid, TagLaid, IntervalsLaid, EntryLaid, EntriesLaid, BodyLaid}
use Rattle.previous_gtids_event.specs.Rewrite.{tag_bytes, intervals_bytes, entry_bytes, entries_bytes, any_tag, header_bytes, body_bytes, rewritten}
use Rattle.packets.proofs.TagLaws.{none-or-tag-short}
use Rattle.previous_gtids_event.proofs.Reading.{uuid-of, tag-of, key-whole, previous-parts, previous-inside}
use Rattle.previous_gtids_event.proofs.Writing.{header_number, header-number, length-header, entry_length}
use Rattle.previous_gtids_event.proofs.Laying.{header-meant, header-reads, entries-read, GoodIntervals, WellFormed, laid-well-formed}
use Rattle.previous_gtids_event.proofs.Accepting.{header-spelt, header-found, entries-found}

-- ---- headers: what `header_of` answers is what their bytes say
module _ (s : List ℕ) (are : Bytes s) (small : length s ≤ 65536) (t : Bool) (n : ℕ) where
  pub header-told : (header rest : List ℕ) → s ≡ header ++ rest → HeaderLaid t n header
      → header_read (of_body s (le_at 8 s 0)) ≡ Ok (record { tagged = t; entries = n })
  header-told header rest whole laid =
      let front : From s 0 (header ++ rest) = subst (From s 0) whole (from_start s) in
      let (h, read, tagged, count, _) = header-reads s header rest laid (front_bytes header rest (subst Bytes whole are)) front in
      ap header_read (body-fits s (le_at 8 s 0) small ∙ read) ∙ rw (tagged, count)

  pub header-means : header_read (of_body s (le_at 8 s 0)) ≡ Ok (record { tagged = t; entries = n }) → Found (HeaderLaid t n) s 0 8
  header-means e =
      split 8 (length s)
      (λ room.
      let h = le_of (part s 0 8) in
      let read : le_at 8 s 0 ≡ parsed h 8 = le-here 8 s 0 room in
      let told : Ok (header_told h 8) ≡ Ok (record { tagged = t; entries = n }) = ap header_read (sym (body-fits s (le_at 8 s 0) small ∙ read)) ∙ e in
      let same : header_told h 8 ≡ record { tagged = t; entries = n } = cc in
      let tagged : says_tagged h ≡ t = ap (λ (y : HeaderRead). y.tagged) same in
      let count : says_count h ≡ n = ap (λ (y : HeaderRead). y.entries) same in
      rw (tagged, count) at (header-found s are h read))
      (λ over. absurd (ok-err (sym e ∙ ap header_read (body-fits s (le_at 8 s 0) small ∙ le-gone 8 s 0 over))))

-- ---- bodies
module _ (s : List ℕ) (es : List Entry) (used : ℕ) where
  -- what is laid out is read, if the header's numbers are bytes
  pub laid_in : (body : BodyLaid s es used) → Bytes body.header → entries_in s ≡ parsed es used
  laid_in body are =
      go body.tagged body.header body.entries body.unread body.whole body.says body.laid body.uses are
    where
      go : (tagged : Bool) (header entries unread : List ℕ) → s ≡ header ++ (entries ++ unread) → HeaderLaid tagged (length es) header
          → EntriesLaid tagged es entries → used ≡ length (header ++ entries) → Bytes header → entries_in s ≡ parsed es used
      go tagged header entries unread whole says laid uses are =
          let front : From s 0 (header ++ (entries ++ unread)) = subst (From s 0) whole (from_start s) in
          let (h, first, is, count, behind) = header-reads s header (entries ++ unread) says are front in
          let (eight, _, _) = header-meant says are in
          let end : 8 + length entries ≡ used = omega (arith, length-append header entries) in
          rw (first, is, count) (entries-read s tagged es entries laid 8 unread behind ∙ ap (parsed es) end)

  -- so it is in bytes
  laid-bytes : Bytes s → BodyLaid s es used → entries_in s ≡ parsed es used
  laid-bytes are body = laid_in body (front_bytes body.header (body.entries ++ body.unread) (subst Bytes body.whole are))

  pub laid-read : Bytes s → length s ≤ 65536 → BodyLaid s es used → previous s ≡ parsed es used
  unfolding previous
  laid-read are small body = body-fits s (entries_in s) small ∙ laid-bytes are body

  -- what is read is laid out
  pub read-laid : Bytes s → previous s ≡ parsed es used → BodyLaid s es used
  read-laid are e =
      let (h, first, found, room, small) = previous-parts s es used e in
      let (count, list) = entries-found s are (says_tagged h) (says_count h) 8 es used room found in
      go (says_tagged h) (says_count h) (header-found s are h first) count list
    where
      go : (t : Bool) (n : ℕ) → Found (HeaderLaid t n) s 0 8 → length es ≡ n → Found (EntriesLaid t es) s 8 used → BodyLaid s es used
      go t n header count list = record {
        tagged = t;
        header = header.bytes;
        entries = list.bytes;
        unread = drop used s;
        whole = header.is ∙ ap (λ (l : List ℕ). header.bytes ++ l) list.is;
        says = rw count header.holds;
        laid = list.holds;
        uses = omega (arith, found-size s header (omega arith), found-size s list header.inside, length-append header.bytes list.bytes);
      }

-- bytes are laid out as one list of entries only, of one length
pub one-body : (s : List ℕ) (es fs : List Entry) (used other : ℕ) → Bytes s → BodyLaid s es used → BodyLaid s fs other → (es ≡ fs) × (used ≡ other)
one-body s es fs used other are a b =
    let p = laid-bytes s es used are a in
    let q = laid-bytes s fs other are b in
    (cc, cc)

-- ---- the bytes that a rewrite gives are a body so laid out
pub header-says : (t : Bool) (n : ℕ) → n < 2 ^ 48 → (header_number t n < 2 ^ 64) × (says_tagged (header_number t n) ≡ t) × (says_count (header_number t n) ≡ n)
unfolding says_tagged says_count
header-says false n h =
    let none : n / 2 ^ 56 ≡ 0 = omega arith in
    let all : n % 2 ^ 56 ≡ n = omega arith in
    (omega arith, rw none, rw (none, all))
header-says true n h =
    let one : (2 ^ 56 + n * 256 + 1) / 2 ^ 56 ≡ 1 = omega arith in
    let count : (2 ^ 56 + n * 256 + 1) / 256 % 2 ^ 48 ≡ n = omega arith in
    (omega arith, rw one, rw (one, count))

no_bytes : (t : List ℕ) → ltb 0 (length t) ≡ false → t ≡ []
no_bytes [] h = refl
no_bytes (b ∷ bs) h = absurd (omega (arith, ltb-false 0 (length (b ∷ bs)) h))

or-false : (a b : Bool) → (a || b) ≡ false → (a ≡ false) × (b ≡ false)
or-false false b h = (refl, h)
or-false true b h = clash refl h

-- the header is laid out
pub header-laid : (t : Bool) (n : ℕ) → n < 2 ^ 48 → HeaderLaid t n (header_bytes t n)
unfolding header_bytes
header-laid false n h =
    let (_, plain, all) = header-says false n h in
    rw (plain, all) at (header-spelt n (le_bytes 8 n) (length-le_bytes 8 n) (le_of-le_bytes 8 n (omega arith)) (le_bytes-bytes 8 n))
header-laid true n h = HeaderLaid.tagged 1 1 (number-written 6 n h) (omega arith)

header-bytes : (t : Bool) (n : ℕ) → n < 2 ^ 48 → Bytes (header_bytes t n)
header-bytes t n h = rw (header-number t n h) (le_bytes-bytes 8 (header_number t n))

-- a tag in the shortest form, where it may have one
shortest-tag : (tagged : Bool) (t : List ℕ) → none_or_tag t ≡ true → (tagged ≡ false → t ≡ []) → TagLaid tagged t (tag_bytes tagged t)
shortest-tag false t good none = rw (none refl) TagLaid.untagged
shortest-tag true t good none = TagLaid.sized (varlen-form (length t) (omega (arith, none-or-tag-short t good))) good

intervals-laid : (is : List Interval) → GoodIntervals is → IntervalsLaid is (intervals_bytes is)
unfolding intervals_bytes
intervals-laid [] good = IntervalsLaid.none
intervals-laid (interval start end ∷ is) good =
    IntervalsLaid.more (number-written 8 start good.0) (number-written 8 end good.1) (intervals-laid is good.2)

shortest-entry : (tagged : Bool) (k : Key) (is : List Interval) → length (uuid_of k) ≡ 16 → TagLaid tagged (tag_of k) (tag_bytes tagged (tag_of k))
    → GoodIntervals is → length is < 2 ^ 64 → EntryLaid tagged (entry k is) (entry_bytes tagged (entry k is))
unfolding entry_bytes
shortest-entry tagged k is sixteen tag good count =
    subst (λ (x : Key). EntryLaid tagged (entry x is) (entry_bytes tagged (entry k is))) (sym (key-whole k))
    (EntryLaid.parts (uuid_of k) sixteen tag (number-written 8 (length is) count) (intervals-laid is good))

shortest : (tagged : Bool) (es : List Entry) → WellFormed es → (tagged ≡ false → any_tag es ≡ false) → EntriesLaid tagged es (entries_bytes tagged es)
unfolding entries_bytes any_tag
shortest tagged [] good none = EntriesLaid.none
shortest tagged (entry k is ∷ es) good none =
    let (key, list, count, others) = good in
    let tag = shortest-tag tagged (tag_of k) key.rule (λ h. no_bytes (tag_of k) (or-false (ltb 0 (length (tag_of k))) (any_tag es) (none h)).0) in
    EntriesLaid.more (shortest-entry tagged k is key.uuid tag list count)
    (shortest tagged es others (λ h. (or-false (ltb 0 (length (tag_of k))) (any_tag es) (none h)).1))

-- entries take 24 bytes each at least
entries-take : (tagged : Bool) (es : List Entry) → WellFormed es → 24 * length es ≤ length (entries_bytes tagged es)
unfolding entries_bytes
entries-take tagged [] good = omega arith
entries-take tagged (entry k is ∷ es) good =
    omega (
      arith,
      length-append (entry_bytes tagged (entry k is)) (entries_bytes tagged es),
      entry_length tagged k is good.0.uuid,
      entries-take tagged es good.3,
    )

module _ (es : List Entry) (good : WellFormed es) where
  few : length (body_bytes es) < 2 ^ 48 → length es < 2 ^ 48
  unfolding body_bytes
  few small =
      let t = any_tag es in
      omega (arith, length-append (header_bytes t (length es)) (entries_bytes t es), entries-take t es good)

  rewritten-laid : (rest : List ℕ) → length (body_bytes es) < 2 ^ 48 → BodyLaid (body_bytes es ++ rest) es (length (body_bytes es))
  unfolding body_bytes
  rewritten-laid rest small =
      let t = any_tag es in
      record {
        tagged = t;
        header = header_bytes t (length es);
        entries = entries_bytes t es;
        unread = rest;
        whole = append_assoc (header_bytes t (length es)) (entries_bytes t es) rest;
        says = header-laid t (length es) (few small);
        laid = shortest t es good (λ e. e);
        uses = refl;
      }

  written_in : (rest : List ℕ) → length (body_bytes es) < 2 ^ 48 → entries_in (body_bytes es ++ rest) ≡ parsed es (length (body_bytes es))
  unfolding rewritten-laid
  written_in rest small =
      laid_in (body_bytes es ++ rest) es (length (body_bytes es)) (rewritten-laid rest small) (header-bytes (any_tag es) (length es) (few small))

  -- what is rewritten reads as its entries, from exactly its bytes, whatever follows them
  pub rewritten-read : (rest : List ℕ) → length (body_bytes es ++ rest) ≤ 65536 → previous (body_bytes es ++ rest) ≡ parsed es (length (body_bytes es))
  unfolding previous
  rewritten-read rest small =
      body-fits (body_bytes es ++ rest) (entries_in (body_bytes es ++ rest)) small ∙ written_in rest (omega (arith, length-append (body_bytes es) rest))

  -- the same without the limit of bodies
  pub rewritten-in : length (body_bytes es) < 2 ^ 48 → entries_in (body_bytes es) ≡ parsed es (length (body_bytes es))
  rewritten-in small =
      let alone = append-nil (body_bytes es) in
      ap entries_in (sym alone) ∙ written_in [] small

  pub rewritten-read-alone : length (body_bytes es) ≤ 65536 → previous (body_bytes es) ≡ parsed es (length (body_bytes es))
  rewritten-read-alone small =
      let alone = append-nil (body_bytes es) in
      ap previous (sym alone) ∙ rewritten-read [] (omega (arith, ap length alone))

-- ---- a rewrite is no longer than what was read
tag-least : (tagged : Bool) (t tag : List ℕ) → TagLaid tagged t tag → length (tag_bytes tagged t) ≤ length tag
tag-least tagged t tag TagLaid.untagged = omega arith
tag-least tagged t tag (TagLaid.sized {size = size} form good) =
    let short = none-or-tag-short t good in
    let least : varlen_size (length t) ≡ 1 = unfold varlen_size in sym (size-found (length t) 1 (omega arith) (omega arith)) in
    omega (arith, length-append (varlen_bytes (length t)) t, length-varlen_bytes (length t), length-append size t, form-some form)

intervals-long : (is : List Interval) (bs : List ℕ) → IntervalsLaid is bs → length bs ≡ 16 * length is
intervals-long is bs IntervalsLaid.none = refl
intervals-long is bs (IntervalsLaid.more {a = a} {b = b} {rest = rest} {is = more} x y laid) =
    simp length-append (omega (arith, x.long, y.long, intervals-long more rest laid))

entry-least : (tagged : Bool) (e : Entry) (bs : List ℕ) → EntryLaid tagged e bs → length (entry_bytes tagged e) ≤ length bs
entry-least tagged e bs (EntryLaid.parts uuid {tag = t} {bytes = tag} {count = count} {intervals = list} {is = is} sixteen tag_is count-is list-is) =
    let size : length (entry_bytes tagged (entry (uuid ++ t) is)) ≡ 24 + 16 * length is + length (tag_bytes tagged t) =
    rw (tag-of uuid t sixteen) at (entry_length tagged (uuid ++ t) is (rw (uuid-of uuid t sixteen) sixteen)) in
    simp length-append (omega (arith, tag-least tagged t tag tag_is, count-is.long, intervals-long is list list-is))

entries-least : (tagged : Bool) (es : List Entry) (bs : List ℕ) → EntriesLaid tagged es bs → length (entries_bytes tagged es) ≤ length bs
unfolding entries_bytes
entries-least tagged es bs EntriesLaid.none = omega arith
entries-least tagged es bs (EntriesLaid.more {e = e} {es = more} {one = one} {rest = rest} first laid) =
    omega (
      arith,
      entry-least tagged e one first,
      entries-least tagged more rest laid,
      length-append one rest,
      length-append (entry_bytes tagged e) (entries_bytes tagged more),
    )

-- without tags they take no more, and an untagged body has none
pub plain-least : (es : List Entry) → length (entries_bytes false es) ≤ length (entries_bytes true es)
unfolding entries_bytes entry_bytes
plain-least [] = omega arith
plain-least (entry k is ∷ es) =
    let behind = le_bytes 8 (length is) ++ intervals_bytes is in
    omega (
      arith,
      plain-least es,
      length-append (uuid_of k ++ behind) (entries_bytes false es),
      length-append (uuid_of k) behind,
      length-append (uuid_of k ++ (tag_bytes true (tag_of k) ++ behind)) (entries_bytes true es),
      length-append (uuid_of k) (tag_bytes true (tag_of k) ++ behind),
      length-append (tag_bytes true (tag_of k)) behind,
    )

no_tag : (t tag : List ℕ) → TagLaid false t tag → ltb 0 (length t) ≡ false
no_tag t tag TagLaid.untagged = refl

no-tags : (es : List Entry) (bs : List ℕ) → EntriesLaid false es bs → any_tag es ≡ false
unfolding any_tag
no-tags es bs EntriesLaid.none = refl
no-tags es bs (EntriesLaid.more {es = more} {rest = rest} (EntryLaid.parts uuid {tag = t} {bytes = tag} sixteen tag_is count-is list-is) laid) =
    rw (tag-of uuid t sixteen, no_tag t tag tag_is) (no-tags more rest laid)

written-least : (tagged : Bool) (es : List Entry) (bs : List ℕ) → EntriesLaid tagged es bs
    → length (entries_bytes (any_tag es) es) ≤ length (entries_bytes tagged es)
written-least false es bs l = rw (no-tags es bs l) (omega arith)
written-least true es bs l = go (any_tag es)
  where
    go : (t : Bool) → length (entries_bytes t es) ≤ length (entries_bytes true es)
    go true = omega arith
    go false = plain-least es

module _ (s : List ℕ) (are_bytes : Bytes s) (es : List Entry) (used : ℕ) (read : previous s ≡ parsed es used) where
  pub read-well-formed : WellFormed es
  read-well-formed =
      let body = read-laid s es used are_bytes read in
      let behind = behind-bytes body.header (body.entries ++ body.unread) (subst Bytes body.whole are_bytes) in
      laid-well-formed body.tagged es body.entries body.laid (front_bytes body.entries body.unread behind)

  pub rewritten-no-longer : length (body_bytes es) ≤ used
  unfolding body_bytes
  rewritten-no-longer =
      let body = read-laid s es used are_bytes read in
      let t = any_tag es in
      let (eight, _, _) = header-meant body.says (front_bytes body.header (body.entries ++ body.unread) (subst Bytes body.whole are_bytes)) in
      omega (
        arith,
        length-append (header_bytes t (length es)) (entries_bytes t es),
        length-header t (length es),
        written-least body.tagged es body.entries body.laid,
        entries-least body.tagged es body.entries body.laid,
        body.uses,
        length-append body.header body.entries,
      )

  -- what was read, written anew, reads as the same entries from exactly its bytes
  pub read_again : previous (body_bytes es) ≡ parsed es (length (body_bytes es))
  read_again =
      let (h, first, found, room, small) = previous-parts s es used read in
      rewritten-read-alone es read-well-formed (omega (arith, rewritten-no-longer, previous-inside s es used read))

-- writing anew what was written anew changes nothing
pub rewrite-again : (s : List ℕ) → Bytes s → (bs : List ℕ) → rewritten (previous s) ≡ bytes bs → rewritten (previous bs) ≡ bytes bs
rewrite-again s are_bytes bs e = go (previous s) refl e
  where
    go : (p : Parse (List Entry)) → previous s ≡ p → rewritten p ≡ bytes bs → rewritten (previous bs) ≡ bytes bs
    go (refuse x) read w = absurd (let clash : ◌≡◌ {A = ℕ} 0 1 = cc in omega arith)
    go (parsed es used) read w =
        let same : body_bytes es ≡ bs = cc in
        ap (λ (l : List ℕ). rewritten (previous l)) (sym same) ∙ ap rewritten (read_again s are_bytes es used read) ∙ w
