-- The totals of `specs/Totals.antt`: both ends are reached, and both sides of 128, by records that are computed whole.
use mathlib.Core.Path.{refl}
use Prim.Native.Nat.{ℕ, ◌-◌, ◌^◌, ◌≤◌, ◌<◌}
use native.Mathlib.Omega.{arith}
use lib.ListN.{length, replicate, length-append, length-replicate}
use Rattle.misc.specs.Le.{le_bytes}
use Rattle.misc.specs.Varlen.{size_from, varlen_size, item_of, varlen_bytes}
use Rattle.misc.proofs.Bounds.{append-bytes, same_bytes, zeros-bytes}
use Rattle.packets.specs.Kept.{padded}
use Rattle.packets.specs.Tag.{all_tag_bytes, is_tag}
use Rattle.gtid_event.specs.Fits.{Fits}
use Rattle.gtid_event.specs.declared.GtidEvent.{GtidEvent}
use Rattle.gtid_event_write.specs.Size.{size_with, payload_size}
use Rattle.gtid_event_write.specs.Writable.{signed_top, all_zero, writable}
use Rattle.gtid_event_write.specs.Layout.{items_bytes, identity_bytes, clock_bytes, rest_bytes, field_bytes, tagged_bytes}
use Rattle.gtid_event_write.specs.Write.{event_bytes}
use Rattle.gtid_event_write.specs.Totals.{Totals}
use Rattle.gtid_event_write.proofs.TotalsLaws.{least, most, never_128}

-- a tag of k letters; the same byte in flags and uuid, the same number in gno, last_committed and sequence_number, and so on. The originals
-- are one less than the immediates, or 0 as they are
abbrev sample : ℕ → ℕ → ℕ → ℕ → ℕ → GtidEvent
sample k b signed number version =
    record {
      flags = b;
      sid = replicate 16 b;
      gno = signed;
      tag = padded 32 (replicate k 97);
      tag_len = k;
      lc_typecode = 0;
      last_committed = signed;
      sequence_number = signed;
      immediate_commit_timestamp = number;
      original_commit_timestamp = number - 1;
      tx_length = number;
      immediate_server_version = version;
      original_server_version = version - 1;
      commit_group_ticket = number;
    }

sample-fits : (k b signed number version : ℕ) → k ≤ 32 → b < 256 → signed < 2 ^ 64 → number < 2 ^ 64 → version < 2 ^ 32
    → Fits (sample k b signed number version)
unfolding padded
sample-fits k b signed number version few byte small large narrow = record {
  flags_fit = byte;
  sid_size = refl;
  sid_fits = same_bytes 16 b byte;
  gno_fits = small;
  tag_size = simp (length-append, length-replicate) (omega arith);
  tag_fits = append-bytes (replicate k 97) _ (same_bytes k 97 (omega arith)) (zeros-bytes (32 - length (replicate k 97)));
  tag_len_fits = omega arith;
  typecode_fits = omega arith;
  last_fits = small;
  sequence_fits = small;
  immediate_fits = large;
  original_fits = omega arith;
  length_fits = large;
  version_fits = narrow;
  original_version_fits = omega arith;
  ticket_fits = large;
}

-- every number takes as few bytes as it can, and as many
abbrev slightest : GtidEvent
slightest = sample 1 0 0 0 0

slightest-fits : Fits slightest
slightest-fits = sample-fits 1 0 0 0 0 (omega arith) (omega arith) (omega arith) (omega arith) (omega arith)

abbrev greatest : ℕ → GtidEvent
greatest k = sample k 255 (2 ^ 63 - 1) (2 ^ 64 - 1) (2 ^ 32 - 1)

greatest-fits : (k : ℕ) → k ≤ 32 → Fits (greatest k)
greatest-fits k few = sample-fits k 255 (2 ^ 63 - 1) (2 ^ 64 - 1) (2 ^ 32 - 1) few (omega arith) (omega arith) (omega arith) (omega arith)

pub totals : Totals
unfolding le_bytes size_from varlen_size item_of varlen_bytes padded all_tag_bytes is_tag size_with payload_size signed_top all_zero writable
    items_bytes identity_bytes clock_bytes rest_bytes field_bytes tagged_bytes event_bytes
totals = record {
  least = least;
  most = most;
  never_128 = never_128;
  reaches_37 = (slightest, record { fits = slightest-fits; has_tag = refl; able = refl }, refl);
  reaches_127 = (greatest 4, record { fits = greatest-fits 4 (omega arith); has_tag = refl; able = refl }, refl);
  reaches_129 = (greatest 5, record { fits = greatest-fits 5 (omega arith); has_tag = refl; able = refl }, refl);
  reaches_156 = (greatest 32, record { fits = greatest-fits 32 (omega arith); has_tag = refl; able = refl }, refl);
}
