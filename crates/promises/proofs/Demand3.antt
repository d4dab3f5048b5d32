-- Demand 3 holds of the offer that our function promises.
use Rattle.resume_set_laws.specs.History.{TellsHistory, CountsTaken, Replays, RefusalsKeep}
use Rattle.resume_set_laws.specs.Ours.{ours}
use Rattle.resume_set_laws.proofs.OneOffer as one
use Rattle.resume_set_laws.proofs.Members as members
use Rattle.resume_set_laws.proofs.Replay as replay

pub tells-history : TellsHistory ours
tells-history = members.tells-history

pub counts-taken : CountsTaken ours
counts-taken = members.counts-taken

pub replays : Replays ours
replays = replay.replays

pub refusals-keep : RefusalsKeep ours
refusals-keep = one.refusals-keep
