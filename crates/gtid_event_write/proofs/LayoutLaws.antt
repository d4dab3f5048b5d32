-- The lengths of a record's parts.
use mathlib.Core.Path.{◌≡◌, sym, ap, ◌∙◌}
use mathlib.Core.List.{◌++◌, append-nil}
use Prim.Native.Nat.{◌+◌, ◌^◌}
use native.Mathlib.Omega.{arith}
use lib.ListN.{length, length-append}
use borrow.Author.Tests.{eq-eqb, ne_eqb}
use Rattle.misc.specs.Lenenc.{lenenc_bytes}
use Rattle.misc.specs.Varlen.{varlen_size, size_from}
use Rattle.misc.proofs.VarlenLaws.{length-varlen_bytes}
use Rattle.misc.proofs.LeLaws.{length-le_bytes}
use Rattle.gtid_event.specs.declared.GtidEvent.{GtidEvent}
use Rattle.gtid_event_write.specs.Size.{payload_size}
use Rattle.gtid_event_write.specs.Layout.{field_bytes, tagged_bytes, pair_bytes, opening_bytes, later_bytes, untagged_bytes}
use Rattle.gtid_event_write.proofs.SizeLaws.{payload-agrees}

module _ (e : GtidEvent) where
  -- ---- tagged
  pub length-tagged : length (tagged_bytes e) ≡ payload_size (length (field_bytes e))
  unfolding tagged_bytes varlen_size size_from
  length-tagged =
      simp (length-append, length-varlen_bytes) (omega (arith, payload-agrees (length (field_bytes e))))

  -- ---- untagged
  pub short-is : e.lc_typecode ≡ 0 → opening_bytes e ≡ untagged_bytes e
  unfolding untagged_bytes
  short-is none = rw (eq-eqb e.lc_typecode 0 none, append-nil)

  pub long-is : (e.lc_typecode ≡ 0 → ⊥) → opening_bytes e ++ later_bytes e ≡ untagged_bytes e
  unfolding untagged_bytes
  long-is some = rw (ne_eqb e.lc_typecode 0 some)

  module _ (sized : length e.sid ≡ 16) where
    length-opening : length (opening_bytes e) ≡ 25
    unfolding opening_bytes
    length-opening = simp (length-append, length-le_bytes) (omega arith)

    pub length-short : e.lc_typecode ≡ 0 → length (untagged_bytes e) ≡ 25
    length-short none = sym (ap length (short-is none)) ∙ length-opening

    pub length-long : (e.lc_typecode ≡ 0 → ⊥) → length (untagged_bytes e)
        ≡ 42 + length (pair_bytes 7 (2 ^ 55) e.immediate_commit_timestamp e.original_commit_timestamp)
        + length (lenenc_bytes e.tx_length)
        + length (pair_bytes 4 (2 ^ 31) e.immediate_server_version e.original_server_version)
    unfolding later_bytes
    length-long some = sym (ap length (long-is some)) ∙ simp (length-append, length-le_bytes, length-opening) (omega arith)
