-- `gtid_event_read::untagged::deserialize_untagged` meets its contract.
-- Assumes nothing.
use mathlib.Core.Path.{◌≡◌}
use Rattle.misc.specs.Parse.{parsed}
use Rattle.gtid_event_read.specs.Seen.{bits_of}
use Rattle.gtid_event_read.specs.Untagged.{opened_in, untagged}
use Rattle.gtid_event_read.proofs.UntaggedLaws.{opening-here, untagged-gone, untagged-clock, untagged-other, untagged-end}
use Rattle.gtid_event_read.proofs.untagged.deserialize_untagged.Goals as goal
use Rattle.gtid_event_read.proofs.untagged.deserialize_untagged.Goals.{else-s-gt-OPENING_LENGTH-via-else-s-gt-OPENING_LENGTH}
use Rattle.gtid_event_read.proofs.untagged.deserialize_untagged.Goals.{
  else-s-gt-OPENING_LENGTH-via-then-s-gt-OPENING_LENGTH+else-s-eq-LOGICAL_TIMESTAMP_TYPECODE,
}

pub returns-then-s-lt-OPENING_LENGTH : goal.returns-then-s-lt-OPENING_LENGTH
returns-then-s-lt-OPENING_LENGTH c = rw (untagged-gone _ c.if-s-lt-OPENING_LENGTH.true)

pub returns-then-s-eq-LOGICAL_TIMESTAMP_TYPECODE : goal.returns-then-s-eq-LOGICAL_TIMESTAMP_TYPECODE
returns-then-s-eq-LOGICAL_TIMESTAMP_TYPECODE c =
    rw (untagged-clock _ (opening-here _ c.if-s-lt-OPENING_LENGTH.false) c.if-s-gt-OPENING_LENGTH.true c.if-s-eq-LOGICAL_TIMESTAMP_TYPECODE.true)
    c.read_clock.ensures

pub returns : goal.returns
unfolding bits_of
returns c =
    let s = c.args.s.now in
    let opening = opening-here s c.if-s-lt-OPENING_LENGTH.false in
    let other : untagged s ≡ parsed (opened_in s) 25 =
    elim c.else-s-gt-OPENING_LENGTH.branch [
      | else-s-gt-OPENING_LENGTH-via-then-s-gt-OPENING_LENGTH+else-s-eq-LOGICAL_TIMESTAMP_TYPECODE w ↦
          untagged-other s opening w.if-s-gt-OPENING_LENGTH.true w.if-s-eq-LOGICAL_TIMESTAMP_TYPECODE.false
      | else-s-gt-OPENING_LENGTH-via-else-s-gt-OPENING_LENGTH w ↦ untagged-end s opening w.if-s-gt-OPENING_LENGTH.false
    ] in
    rw (c.read_opening.ensures, other)
