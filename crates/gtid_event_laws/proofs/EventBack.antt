-- A record that can be written reads back equal from the bytes of its event, under the type that it is written as.
use mathlib.Core.Path.{◌≡◌, refl}
use mathlib.Core.Bool.{true, false}
use mathlib.Core.List.{List, [], ◌++◌, append-nil}
use Prim.Native.Nat.{ℕ, ◌≤◌, ◌<◌}
use native.Mathlib.Omega.{arith}
use lib.ListN.{length}
use Rattle.misc.specs.Parse.{parsed}
use Rattle.packets.proofs.Tests.{split}
use Rattle.gtid_event.specs.Event.{type_of}
use Rattle.gtid_event.specs.Event as event
use Rattle.gtid_event.specs.declared.GtidEvent.{GtidEvent}
use Rattle.gtid_event_read.specs.Untagged.{typecode_at, untagged}
use Rattle.gtid_event_read.specs.Tagged.{tagged}
use Rattle.gtid_event_read.specs.Seen.{Seen}
use Rattle.gtid_event_read.specs.Read.{record_in, gtid, named}
use Rattle.gtid_event_read.proofs.ReadLaws.{seen-untagged, seen-42}
use Rattle.gtid_event_write.specs.Writable.{writable}
use Rattle.gtid_event_write.specs.Layout.{tagged_bytes, untagged_bytes}
use Rattle.gtid_event_write.specs.Write.{event_bytes}
use Rattle.gtid_event_write.proofs.TotalsLaws.{most}
use Rattle.gtid_event.specs.Fits.{Fits}
use Rattle.gtid_event_laws.proofs.UntaggedBack.{untagged-within, untagged-back}
use Rattle.gtid_event_laws.proofs.TaggedBack.{all_seen, tagged-back}

-- ---- a body of each type
module _ (s : List ℕ) (fits : length s ≤ 65536) where
  read-untagged : (type : ℕ) → 33 ≤ type → type < 35 → {e : GtidEvent} {next : ℕ} → untagged s ≡ parsed e next → gtid type s ≡ parsed e next
  unfolding gtid
  read-untagged type low high e = rw (seen-untagged type s fits low high, e)

  read-tagged : (x : Seen) {next : ℕ} → tagged s ≡ parsed x next → gtid 42 s ≡ parsed x.event next
  unfolding gtid
  read-tagged x e = rw (seen-42 42 s fits refl, e)

module _ (e : GtidEvent) where
  bytes-tagged : event.tagged e ≡ true → event_bytes e ≡ tagged_bytes e
  unfolding event_bytes
  bytes-tagged is = rw is

  bytes-untagged : event.tagged e ≡ false → event_bytes e ≡ untagged_bytes e
  unfolding event_bytes
  bytes-untagged is = rw is

  type-tagged : event.tagged e ≡ true → type_of e ≡ 42
  type-tagged is = rw is

  type-untagged : event.tagged e ≡ false → type_of e ≡ 33
  type-untagged is = rw is

-- ---- the whole
module _ (e : GtidEvent) (fits : Fits e) (can : writable e ≡ true) where
  -- Written, it reads back equal, and its bytes are those used, whatever follows them in a body; but after an untagged record
  -- without a typecode the next byte must not be 2, which would be taken for the typecode.
  pub event-back : (rest : List ℕ) → (event.tagged e ≡ false → e.lc_typecode ≡ 0 → typecode_at rest 0 ≡ false)
      → length (event_bytes e ++ rest) ≤ 65536 → gtid (type_of e) (event_bytes e ++ rest) ≡ parsed e (length (event_bytes e))
  event-back rest free size =
      split (event.tagged e)
      (λ is. rw (type-tagged e is) (read-tagged (event_bytes e ++ rest) size (all_seen e) (rw (bytes-tagged e is) (tagged-back e fits can is rest))))
      (λ is. rw (type-untagged e is)
      (read-untagged (event_bytes e ++ rest) size 33 (omega arith) (omega arith) (rw (bytes-untagged e is) (untagged-back e fits can is rest (free is)))))

  -- an untagged record reads back as an anonymous event too
  pub anonymous-back : event.tagged e ≡ false → (rest : List ℕ) → (e.lc_typecode ≡ 0 → typecode_at rest 0 ≡ false)
      → length (event_bytes e ++ rest) ≤ 65536 → gtid 34 (event_bytes e ++ rest) ≡ parsed e (length (event_bytes e))
  anonymous-back is rest free size =
      read-untagged (event_bytes e ++ rest) size 34 (omega arith) (omega arith) (rw (bytes-untagged e is) (untagged-back e fits can is rest free))

  -- the event has few bytes
  pub event-most : length (event_bytes e) ≤ 156
  event-most =
      split (event.tagged e) (λ is. most e (record { fits = fits; has_tag = is; able = can }))
      (λ is. rw (bytes-untagged e is) (omega (arith, (untagged-within e fits).most)))

  -- so it reads back from a body that is just its bytes
  pub event-alone : gtid (type_of e) (event_bytes e) ≡ parsed e (length (event_bytes e))
  event-alone =
      rw append-nil at (event-back [] (λ _ _. refl) (rw append-nil (omega (arith, event-most))))

  -- and also where its id is asked for: a tagged record is written with its uuid and its gno
  pub event-named : record_in (named (type_of e) (event_bytes e)) ≡ parsed e (length (event_bytes e))
  unfolding named
  event-named =
      split (event.tagged e)
      (λ is.
      let whole : tagged (tagged_bytes e) ≡ parsed (all_seen e) (length (tagged_bytes e)) = rw append-nil at (tagged-back e fits can is []) in
      let few : length (tagged_bytes e) ≤ 65536 = rw (bytes-tagged e is) at small in
      rw (type-tagged e is, bytes-tagged e is, seen-42 42 (tagged_bytes e) few refl, whole))
      (λ is.
      let whole : untagged (untagged_bytes e) ≡ parsed e (length (untagged_bytes e)) = rw append-nil at (untagged-back e fits can is [] (λ _. refl)) in
      let few : length (untagged_bytes e) ≤ 65536 = rw (bytes-untagged e is) at small in
      rw (type-untagged e is, bytes-untagged e is, seen-untagged 33 (untagged_bytes e) few (omega arith) (omega arith), whole))
    where
      small : length (event_bytes e) ≤ 65536
      small = omega (arith, event-most)
