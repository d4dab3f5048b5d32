-- `set_join::take_in::lawful_body` meets its contract.
use Prim.Native.Nat.{◌-◌}
use Rattle.set_join.proofs.LawfulLaws.{StillLawful}
use Rattle.set_join.proofs.take_in.lawful_body.Given as goal

abbrev pub invariant-loop : goal.invariant-loop
invariant-loop l = StillLawful l.body l.header.tagged l.at (l.end - l.counter)
