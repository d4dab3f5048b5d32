-- How many bytes a tagged record has that can be written, from the limits of its fields.
use mathlib.Core.Path.{◌≡◌, sym, ap, ◌∙◌}
use mathlib.Core.List.{List, [], ◌∷◌}
use Prim.Native.Nat.{ℕ, suc, ◌+◌, ◌*◌, ◌^◌, ◌≤◌, ◌<◌}
use native.Mathlib.Omega.{arith}
use lib.Dec.{eqb}
use lib.ListN.{length}
use Rattle.misc.specs.Parse.{Bytes}
use Rattle.misc.specs.Varlen.{varlen_bytes}
use Rattle.misc.proofs.ParseLaws as nat
use Rattle.misc.proofs.VarlenLaws.{length-varlen_bytes, size-range}
use Rattle.packets.proofs.Tests.{split}
use Rattle.packets.proofs.TagLaws.{tag-not-empty, tag-at-most-32}
use Rattle.gtid_event.specs.Fits.{Fits}
use Rattle.gtid_event.specs.declared.GtidEvent.{GtidEvent}
use Rattle.gtid_event_write.specs.Writable.{tag_of}
use Rattle.gtid_event_write.specs.Size.{payload_size}
use Rattle.gtid_event_write.specs.Layout.{number_bytes, unless_bytes, items_bytes, identity_bytes, clock_bytes, rest_bytes, field_bytes}
use Rattle.gtid_event_write.specs.Write.{event_bytes}
use Rattle.gtid_event_write.specs.Totals.{TaggedOne}
use Rattle.gtid_event_write.proofs.SizeLaws.{size-most, payload-agrees, payload-one, payload-two, payload-never-128}
use Rattle.gtid_event_write.proofs.WritableLaws.{TaggedFits, tagged-fits, as-tagged}
use Rattle.gtid_event_write.proofs.LayoutLaws.{length-tagged}
use Rattle.gtid_event_write.proofs.WriteLaws.{bytes-tagged}
use Rattle.gtid_event_write.proofs.Within.{Within, ◌plus◌}

-- ---- an integer: one byte at least, and as many at most as hold what is below a limit

item : (k v : ℕ) → 1 ≤ k → v < 2 ^ (7 * k) → Within (varlen_bytes v) 1 k
item k v h l = record { least = omega (arith, length-varlen_bytes v, size-range v); most = omega (arith, length-varlen_bytes v, size-most k v h l) }

any : (v : ℕ) → Within (varlen_bytes v) 1 9
any v = record { least = omega (arith, length-varlen_bytes v, size-range v); most = omega (arith, length-varlen_bytes v, size-range v) }

-- ---- fields

number : (id v : ℕ) {k : ℕ} → id < 128 → Within (varlen_bytes v) 1 k → Within (number_bytes id v) 2 (1 + k)
number id v small w = item 1 id (omega arith) small plus w

unless : (id v assumed : ℕ) {k : ℕ} → id < 128 → Within (varlen_bytes v) 1 k → Within (unless_bytes id v assumed) 0 (1 + k)
unless id v assumed small w =
    split (eqb v assumed) (λ out. rw out (record { least = omega arith; most = omega arith }))
    (λ sent. rw sent (record { least = omega arith; most = (number id v small w).most }))

items : (bs : List ℕ) → Bytes bs → Within (items_bytes bs) (length bs) (2 * length bs)
unfolding items_bytes
items [] small = record { least = omega arith; most = omega arith }
items (b ∷ bs) small =
    let byte : b < 256 = small 0 in
    let all = item 2 b (omega arith) (omega arith) plus items bs (λ i. small (suc i)) in
    record { least = omega (arith, all.least); most = omega (arith, all.most) }

module _ (e : GtidEvent) (fits : Fits e) (tests : TaggedFits e) where
  identity : Within (identity_bytes e) 24 80
  unfolding identity_bytes
  identity =
      let flags = fits.flags_fit in
      let most = tests.tag in
      let size = fits.sid_size in
      let uuid = items e.sid fits.sid_fits in
      let sixteen : Within (items_bytes e.sid) 16 32 = record { least = omega (arith, uuid.least); most = omega (arith, uuid.most) } in
      let tag : Within (tag_of e) 1 32 = record { least = tag-not-empty (tag_of e) tests.valid; most = tag-at-most-32 (tag_of e) tests.valid } in
      number 0 e.flags (omega arith) (item 2 e.flags (omega arith) (omega arith))
      plus (item 1 1 (omega arith) (omega arith) plus sixteen)
      plus number 2 (e.gno * 2) (omega arith) (any (e.gno * 2))
      plus (item 1 3 (omega arith) (omega arith) plus item 1 e.tag_len (omega arith) (omega arith) plus tag)

  clock : Within (clock_bytes e) 6 40
  unfolding clock_bytes
  clock =
      number 4 (e.last_committed * 2) (omega arith) (any (e.last_committed * 2))
      plus number 5 (e.sequence_number * 2) (omega arith) (any (e.sequence_number * 2))
      plus number 6 e.immediate_commit_timestamp (omega arith) (any e.immediate_commit_timestamp)
      plus unless 7 e.original_commit_timestamp e.immediate_commit_timestamp (omega arith) (any e.original_commit_timestamp)

  rest : Within (rest_bytes e) 4 32
  unfolding rest_bytes
  rest =
      let version = fits.version_fits in
      let original = fits.original_version_fits in
      number 8 e.tx_length (omega arith) (any e.tx_length)
      plus number 9 e.immediate_server_version (omega arith) (item 5 e.immediate_server_version (omega arith) (omega arith))
      plus unless 10 e.original_server_version e.immediate_server_version (omega arith)
      (item 5 e.original_server_version (omega arith) (omega arith))
      plus unless 11 e.commit_group_ticket 0 (omega arith) (any e.commit_group_ticket)

  pub fields_within : Within (field_bytes e) 34 152
  unfolding field_bytes
  fields_within = identity plus clock plus rest

  pub total-most : payload_size (length (field_bytes e)) ≤ 156
  total-most =
      let n = length (field_bytes e) in
      let most = fields_within.most in
      nat.split 125 n (λ more. omega (arith, payload-two n more (omega arith))) (λ less. omega (arith, payload-one n less))

-- ---- the whole

module _ (e : GtidEvent) (one : TaggedOne e) where
  tests : TaggedFits e
  tests = tagged-fits e (as-tagged e one.able one.has_tag)

  pub total-is : length (event_bytes e) ≡ payload_size (length (field_bytes e))
  total-is = sym (ap length (bytes-tagged e one.has_tag)) ∙ length-tagged e

  pub least : 37 ≤ length (event_bytes e)
  least =
      let n = length (field_bytes e) in
      omega (arith, total-is, payload-agrees n, size-range (payload_size n), (fields_within e one.fits tests).least)

  pub most : length (event_bytes e) ≤ 156
  most = omega (arith, total-is, total-most e one.fits tests)

  pub never_128 : length (event_bytes e) ≡ 128 → ⊥
  never_128 is = payload-never-128 (length (field_bytes e)) (sym total-is ∙ is)
