-- A fault of a Previous-GTIDs body forces its number.
use Prim.Native.Nat.{ℕ, ◌+◌, ◌<◌}
use mathlib.Core.Path.{◌≡◌, refl}
use mathlib.Core.Bool.{Bool, true, false}
use mathlib.Core.List.{List, ◌++◌}
use native.Mathlib.Omega.{arith}
use lib.ListN.{length}
use borrow.Author.Tests.{le-leb, lt-leb}
use Rattle.misc.specs.Refusal.{ended, bad_tag, too_long}
use Rattle.misc.specs.Parse.{Bytes, refuse, part}
use Rattle.misc.specs.Body.{body_limit}
use Rattle.misc.specs.Forms.{Form}
use Rattle.misc.proofs.ParseLaws.{bytes-here, bytes-gone}
use Rattle.misc.proofs.BodyLaws.{body_limit-is}
use Rattle.misc.proofs.LeLaws.{le-gone}
use Rattle.misc.proofs.Bounds.{front_bytes}
use Rattle.misc.proofs.Places.{From, from_start, from-size, from-room, from_next, from-part}
use Rattle.misc.proofs.FormsRead.{form-reads, number-reads}
use Rattle.packets.specs.Tag.{none_or_tag}
use Rattle.previous_gtids_event.specs.Previous.{tag_at, key_at, head_at, entry_at, previous}
use Rattle.previous_gtids_event.proofs.Reading.{intervals-gone}
use Rattle.previous_gtids_event.proofs.Laying.{header-reads, tag-reads, uuid-there, entries-read}
use Rattle.promises.specs.Faults.{CutForm}
use Rattle.promises.specs.BodyFaults.{EntryFault, BodyFault}
use Rattle.promises.proofs.Forces.{Refuses, is-refused, many-stops}
use Rattle.promises.proofs.TaggedRefused.{cut-ends}

module _ (s : List ℕ) where
  -- a tag that is refused
  tag-length-ends : (at : ℕ) (rest : List ℕ) → CutForm rest → From s at rest → tag_at true s at ≡ refuse ended
  unfolding tag_at
  tag-length-ends at rest cut h = rw (cut-ends s at rest cut h)

  tag-ends : (at k : ℕ) (size rest : List ℕ) → Form k size → length rest < k → From s at (size ++ rest) → tag_at true s at ≡ refuse ended
  unfolding tag_at
  tag-ends at k size rest form few h =
      let behind = from_next s at size rest h in
      rw (form-reads s at k size rest form h, bytes-gone k s (at + length size) (omega (arith, from-size s (at + length size) rest behind)))

  tag-breaks : (at : ℕ) (t size rest : List ℕ) → Form (length t) size → none_or_tag t ≡ false → From s at (size ++ (t ++ rest)) → tag_at true s at ≡ refuse bad_tag
  unfolding tag_at
  tag-breaks at t size rest form bad h =
      let behind = from_next s at size (t ++ rest) h in
      let from = at + length size in
      let there : part s from (length t) ≡ t = from-part s from t rest behind (length t) refl in
      rw (form-reads s at (length t) size (t ++ rest) form h, bytes-here (length t) s from (from-room s from t rest behind), there, bad)

  pub entry-forced : (tagged : Bool) (at : ℕ) (l : List ℕ) (n : ℕ) → EntryFault tagged l n → From s at l → Refuses (entry_at tagged s at) n
  unfolding entry_at head_at key_at
  entry-forced tagged at l n (EntryFault.cut_uuid few) h = is-refused ended (rw (bytes-gone 16 s at (omega (arith, from-size s at l h))))
  entry-forced tagged at l n (EntryFault.cut_tag_length uuid {rest = rest} sixteen cut) h =
      let (room, second) = uuid-there s at uuid rest sixteen h in
      is-refused ended (rw (bytes-here 16 s at room, tag-length-ends (at + 16) rest cut second))
  entry-forced tagged at l n (EntryFault.cut_tag {n = k} uuid {size = size} rest sixteen form few) h =
      let (room, second) = uuid-there s at uuid (size ++ rest) sixteen h in
      is-refused ended (rw (bytes-here 16 s at room, tag-ends (at + 16) k size rest form few second))
  entry-forced tagged at l n (EntryFault.cut_count uuid {tag = t} {bytes = tag} rest sixteen tag_is few) h =
      let (room, second) = uuid-there s at uuid (tag ++ rest) sixteen h in
      let read = tag-reads s tagged (at + 16) t tag rest tag_is second in
      let third = from_next s (at + 16) tag rest second in
      let gone = le-gone 8 s (at + 16 + length tag) (omega (arith, from-size s (at + 16 + length tag) rest third)) in
      is-refused ended (rw (bytes-here 16 s at room, read, gone))
  entry-forced tagged at l n (EntryFault.cut_intervals {n = k} uuid {tag = t} {bytes = tag} {count = count} rest sixteen tag_is count-is few) h =
      let (room, second) = uuid-there s at uuid (tag ++ (count ++ rest)) sixteen h in
      let read = tag-reads s tagged (at + 16) t tag (count ++ rest) tag_is second in
      let third = from_next s (at + 16) tag (count ++ rest) second in
      let m = at + 16 + length tag in
      let fourth : From s (m + 8) rest = rw count-is.long at (from_next s m count rest third) in
      let counted = number-reads s 8 m k count rest count-is third in
      is-refused ended (rw
      (bytes-here 16 s at room, read, counted, intervals-gone s k (m + 8) fourth.inside (omega (arith, from-size s (m + 8) rest fourth))))
  entry-forced tagged at l n (EntryFault.tag_rule uuid t {size = size} rest sixteen form bad) h =
      let (room, second) = uuid-there s at uuid (size ++ (t ++ rest)) sixteen h in
      is-refused bad_tag (rw (bytes-here 16 s at room, tag-breaks (at + 16) t size rest form bad second))

pub body-forced : (s : List ℕ) → Bytes s → (n : ℕ) → BodyFault s n → Refuses (previous s) n
unfolding previous
body-forced s are n (BodyFault.too_long l over) = is-refused too_long (rw (lt-leb (length s) body_limit over))
body-forced s are n (BodyFault.cut_header l few) = is-refused ended (rw (le-leb (length s) body_limit (omega (arith, body_limit-is)), le-gone 8 s 0 few))
body-forced s are n (BodyFault.in_entries {tagged = tagged} {count = count} {es = es} {header = header} {front = front} {rest = rest} short says entries below
    bad) =
    let (h, read, is, counted, second) = header-reads s header (front ++ rest) says (front_bytes header (front ++ rest) are) (from_start s) in
    let passed = entries-read s tagged es front entries 8 rest second in
    let (r, e, this) = entry-forced s tagged (8 + length front) rest n bad (from_next s 8 front rest second) in
    (r, rw (le-leb (length s) body_limit short, read, is, counted, many-stops (entry_at tagged s) (length es) count 8 below passed e), this)
