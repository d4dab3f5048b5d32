-- Demand 3, in the order in which the laws build on each other: of whatever gives events to a set, and of the offer that `resume_set` promises.
pub mod Starts
pub mod AnyRun
pub mod AnyReplay
pub mod OneOffer
pub mod Members
pub mod Replay
