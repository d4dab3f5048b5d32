-- `misc::lenenc::lenenc_int_len` meets its contract.
use mathlib.Core.Path.{sym}
use native.Mathlib.Omega.{arith}
use Rattle.misc.proofs.LenencLaws.{size-1, size-3, size-4, size-9}
use Rattle.misc.proofs.lenenc.lenenc_int_len.Goals as goal

pub returns-in-0-to-250 : goal.returns-in-0-to-250
returns-in-0-to-250 c = (sym (size-1 _ (omega arith)), omega arith)

pub returns-in-251-to-65535 : goal.returns-in-251-to-65535
returns-in-251-to-65535 c = (sym (size-3 _ (omega arith) (omega arith)), omega arith)

pub returns-in-65536-to-16777215 : goal.returns-in-65536-to-16777215
returns-in-65536-to-16777215 c = (sym (size-4 _ (omega arith) (omega arith)), omega arith)

pub returns-in_default : goal.returns-in_default
returns-in_default c = (sym (size-9 _ (omega arith)), omega arith)
