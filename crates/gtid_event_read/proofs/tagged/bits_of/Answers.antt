-- `gtid_event_read::tagged::bits_of` meets its contract.
-- Assumes nothing.
use mathlib.Core.Bool.{false}
use Prim.Native.Nat.{◌-◌}
use native.Mathlib.Omega.{arith}
use lib.ListN.{get_or, drop, length-drop}
use borrow.Author.Rules.{rules}
use Rattle.gtid_event_read.proofs.PresentLaws.{bits_below, bits_none, bool-byte, bits-more}
use Rattle.gtid_event_read.proofs.tagged.bits_of.Goals as goal

pub loop-id-init : goal.loop-id-init
loop-id-init c = bits_none c.args.present 12 (search rules)

pub overflow_mul-bits : goal.overflow_mul-bits
overflow_mul-bits c =
    omega (arith, c.loop-id.invariant, bits_below 11 (drop c.loop-id.id c.args.present) (simp length-drop (search rules)))

pub overflow_add-bits : goal.overflow_add-bits
overflow_add-bits c =
    omega (
      arith,
      c.loop-id.invariant,
      bits_below 11 (drop c.loop-id.id c.args.present) (simp length-drop (search rules)),
      (bool-byte (get_or c.args.present (c.loop-id.id - 1) false) 0).0,
    )

pub loop-id-preserved : goal.loop-id-preserved
loop-id-preserved c = bits-more c.args.present c.loop-id.id c.loop-id.bits (omega arith) (search rules) c.loop-id.invariant
