-- How the pairs of an untagged event are answered inside the crate.
use Rattle.std.specs.Prelude.{ℕ, Result}
use Rattle.misc.specs.declared.refusal.Refusal.{Refusal}
use Rattle.misc.specs.Parse.{Parse, answered}
use Rattle.misc.specs.declared.Read.{Read}
use Rattle.gtid_event_read.specs.Untagged.{Pair, pair}
use Rattle.gtid_event_read.specs.declared.untagged.Pair.{Pair as PairRead}

abbrev pub paired : Pair → ℕ → Read PairRead
paired (pair i o) next = record { value = record { immediate = i; original = o }; next = next }

abbrev pub pair_read : Parse Pair → Result (Read PairRead) Refusal
pair_read p = answered paired p
