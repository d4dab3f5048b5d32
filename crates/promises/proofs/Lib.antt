-- The demands hold of what our functions promise. Demand 1: `integers-exact`, `events-exact`, `bodies-exact`, `reader-exact`, `sets-exact`,
-- `archive-exact`, `offers-exactly`, `asks-exactly`; `zeros`, `outputs`. Demand 2: `records-mean`, `records-back`,
-- `records-again`, `least_size`, `entries-back`, `entries-mean`, `building`; `integers-told`, `events-told`, `bodies-told`, `listing-told`, `presence`,
-- `sets-told`. Demand 3: `tells-history`, `counts-taken`, `replays`, `refusals-keep`; `rules`, `highest`. The requests: `two-sets`, `heads`, `reports`,
-- `files`. The edges: `edges-agree`. No two cases hold at once, and what is laid out has no fault (`OneOutcome`).

-- the language: what is refused has its case, and a case forces its number
pub mod Gives
pub mod Forces
pub mod Numbers
pub mod Exactly
-- the layouts of records: what is laid out is read, what is read is laid out
pub mod TaggedSaid
pub mod TaggedReads
pub mod TaggedAccepted
pub mod UntaggedReads
pub mod UntaggedAccepted
pub mod Demand2
-- the faults of events
pub mod Stops
pub mod StopsGiven
pub mod UntaggedForced
pub mod TaggedRefused
pub mod TaggedFaulty
pub mod UntaggedFaulty
pub mod EventExact
pub mod Naming
-- those of bodies
pub mod BodyFaults
pub mod BodyForced
-- the set limits, in the rules' numbers
pub mod LimitsExact
pub mod AtLimits
-- demand 1: every public function
pub mod IntegersExact
pub mod WritingExact
pub mod RecordsExact
pub mod SetsExact
pub mod BodiesExact
pub mod ReaderExact
pub mod ArchiveExact
pub mod BesidesHold
pub mod OneOutcome
-- demand 2
pub mod BuildingHolds
pub mod AnswersTold
pub mod PresenceHolds
pub mod FieldNames
pub mod SetsTold
-- demand 3
pub mod Demand3
pub mod RulesHold
pub mod HighestHolds
-- the requests
pub mod TwoSetsHold
pub mod HeadsHold
pub mod ReportsHold
pub mod FileJoins
pub mod FileOffers
pub mod FileEvents
pub mod FileReads
pub mod FileSteps
pub mod FilesHold
-- the edges
pub mod EdgesAgree
-- what follows from the page, and isn't on it
pub mod Follows
