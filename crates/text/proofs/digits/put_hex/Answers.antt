-- `text::digits::put_hex` meets its contract.
use Prim.Native.Nat.{◌<◌}
use lib.ListN.{length}
use mathlib.Core.Path.{refl}
use native.Mathlib.Omega.{arith}
use Rattle.std.proofs.lemmas.Bool.Decides.{nat_tests}
use Rattle.misc.proofs.PutLaws.{puts_none, puts-short}
use Rattle.text.proofs.DigitLaws.{hex-none, hex-long, hex-put}
use Rattle.text.proofs.digits.put_hex.Goals as goal
use Rattle.text.proofs.digits.put_hex.Goals.{then-is_empty-via-then-is_empty, then-is_empty-via-else-is_empty+then-left-source}

pub returns-then-is_empty : goal.returns-then-is_empty
returns-then-is_empty c = let s = c.args.source.now in
    elim c.then-is_empty.branch [
      | then-is_empty-via-then-is_empty w ↦ rw (hex-none s (grind (arith, nat_tests))) (puts_none _)
      | then-is_empty-via-else-is_empty+then-left-source w ↦ puts-short _ _ (omega (arith, hex-long s))
    ]

pub returns : goal.returns
returns c = let s = c.args.source.now in
    let some : 0 < length s = grind (arith, nat_tests) in
    let whole = rw c.unwrap.ensures at c.encode_to_slice.ensures.written in
    let p = c.args.put.now in
    let e = hex-put s p.out.now _ p.at (λ i. (c.type_inv.source i).fits) (omega arith) whole in
    record { out = e.1; at = e.0; same = refl }
