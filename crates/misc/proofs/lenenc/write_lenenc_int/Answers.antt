-- `misc::lenenc::write_lenenc_int` meets its contract.
use native.Mathlib.Omega.{arith}
use Rattle.misc.proofs.LenencLaws.{bytes-1, bytes-3, bytes_4, bytes-9}
use Rattle.misc.proofs.Clauses.{both}
use Rattle.misc.proofs.lenenc.write_lenenc_int.Goals as goal

pub returns-in-0-to-250 : goal.returns-in-0-to-250
returns-in-0-to-250 c = both (rw (bytes-1 c.args.value (omega arith)) (c.write_led.ensures.value, c.write_led.ensures.out_after))

pub returns-in-251-to-65535 : goal.returns-in-251-to-65535
returns-in-251-to-65535 c = both (rw (bytes-3 c.args.value (omega arith) (omega arith)) (c.write_led-in-251-to-65535.ensures.value, c.write_led-in-251-to-65535.ensures.out_after))

pub returns-in-65536-to-16777215 : goal.returns-in-65536-to-16777215
returns-in-65536-to-16777215 c = both (rw (bytes_4 c.args.value (omega arith) (omega arith)) (c.write_led-in-65536-to-16777215.ensures.value, c.write_led-in-65536-to-16777215.ensures.out_after))

pub returns-in_default : goal.returns-in_default
returns-in_default c = both (rw (bytes-9 c.args.value (omega arith)) (c.write_led-in_default.ensures.value, c.write_led-in_default.ensures.out_after))
