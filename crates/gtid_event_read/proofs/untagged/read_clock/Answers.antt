-- `gtid_event_read::untagged::read_clock` meets its contract.
-- Assumes nothing.
use mathlib.Core.Path.{◌∙◌}
use Rattle.misc.specs.Le.{le_at}
use Rattle.misc.proofs.ParseLaws.{handed-on, read-ok, read-err, answered-err}
use Rattle.gtid_event_read.specs.Untagged.{timestamps_at, length_at, versions_at, clock_at}
use Rattle.gtid_event_read.specs.Seen.{bits_of}
use Rattle.gtid_event_read.specs.Pairs.{paired}
use Rattle.gtid_event_read.proofs.UntaggedLaws.{pair-told}
use Rattle.gtid_event_read.proofs.untagged.read_clock.Goals as goal

pub returns-in_err-last_committed : goal.returns-in_err-last_committed
unfolding clock_at
returns-in_err-last_committed c = handed-on _ c.from_residual.ensures ∙ rw (read-err (le_at 8 c.args.s.now c.args.at) c.in_err-last_committed.ensures)

pub returns-in_err-sequence_number : goal.returns-in_err-sequence_number
unfolding clock_at
returns-in_err-sequence_number c =
    let s = c.args.s.now in
    handed-on _ c.from_residual-in_err-sequence_number.ensures
    ∙ rw (
      read-ok (le_at 8 s c.args.at) c.in_ok-last_committed.ensures,
      read-err (le_at 8 s c.in_ok-last_committed.last_committed.next) c.in_err-sequence_number.ensures,
    )

pub returns-in_err-timestamps : goal.returns-in_err-timestamps
unfolding clock_at timestamps_at
returns-in_err-timestamps c =
    let s = c.args.s.now in
    handed-on _ c.from_residual-in_err-timestamps.ensures
    ∙ rw (
      read-ok (le_at 8 s c.args.at) c.in_ok-last_committed.ensures,
      read-ok (le_at 8 s c.in_ok-last_committed.last_committed.next) c.in_ok-sequence_number.ensures,
      answered-err paired (timestamps_at s c.in_ok-sequence_number.sequence_number.next) c.in_err-timestamps.ensures.value,
    )

pub returns-in_err-tx_length : goal.returns-in_err-tx_length
unfolding clock_at timestamps_at
returns-in_err-tx_length c =
    let s = c.args.s.now in
    handed-on _ c.from_residual-in_err-tx_length.ensures
    ∙ rw (
      read-ok (le_at 8 s c.args.at) c.in_ok-last_committed.ensures,
      read-ok (le_at 8 s c.in_ok-last_committed.last_committed.next) c.in_ok-sequence_number.ensures,
      pair-told (timestamps_at s c.in_ok-sequence_number.sequence_number.next) c.in_ok-timestamps.ensures.value,
      read-err (length_at s c.in_ok-timestamps.timestamps.next) c.in_err-tx_length.ensures,
    )

pub returns-in_err-versions : goal.returns-in_err-versions
unfolding clock_at timestamps_at versions_at
returns-in_err-versions c =
    let s = c.args.s.now in
    handed-on _ c.from_residual-in_err-versions.ensures
    ∙ rw (
      read-ok (le_at 8 s c.args.at) c.in_ok-last_committed.ensures,
      read-ok (le_at 8 s c.in_ok-last_committed.last_committed.next) c.in_ok-sequence_number.ensures,
      pair-told (timestamps_at s c.in_ok-sequence_number.sequence_number.next) c.in_ok-timestamps.ensures.value,
      read-ok (length_at s c.in_ok-timestamps.timestamps.next) c.in_ok-tx_length.ensures,
      answered-err paired (versions_at s c.in_ok-tx_length.tx_length.next) c.in_err-versions.ensures.value,
    )

pub returns : goal.returns
unfolding clock_at timestamps_at versions_at bits_of
returns c =
    let s = c.args.s.now in
    rw (
      read-ok (le_at 8 s c.args.at) c.in_ok-last_committed.ensures,
      read-ok (le_at 8 s c.in_ok-last_committed.last_committed.next) c.in_ok-sequence_number.ensures,
      pair-told (timestamps_at s c.in_ok-sequence_number.sequence_number.next) c.in_ok-timestamps.ensures.value,
      read-ok (length_at s c.in_ok-timestamps.timestamps.next) c.in_ok-tx_length.ensures,
      pair-told (versions_at s c.in_ok-tx_length.tx_length.next) c.in_ok-versions.ensures.value,
      c.clocked.ensures,
      c.read_opening.ensures,
    )
