-- The page to read first, in this order. Each file answers one question. What is named from other crates stands in their specs/.

-- ---- What is on the wire? No parser is named here. Integers are laid out in `Forms` of misc, Previous-GTIDs bodies in `Layout` of
-- previous_gtids_event, sets are `SetLaid` of `Lent` of gtid_sets, and binlog files `Layout` of binlog.
-- Which bytes are which untagged record?
pub mod UntaggedLayout
-- Which bytes are which tagged one, and which fields were there?
pub mod TaggedLayout
-- ---- What is refused? The table of refusals, over the same layouts.
-- What is wrong with an event's bytes?
pub mod Faults
-- What is wrong with those of a Previous-GTIDs body?
pub mod BodyFaults
-- What is wrong with one integer, a part of a body, a tag or a record that is to be written, and when is an output too short?
pub mod PlainFaults
-- What is wrong with a set, a body that is taken in, and an offer; and what is an offer answered otherwise?
pub mod SetFaults
-- ---- Demand 1.
-- Does every public function give a number exactly where the table has its case, whatever other faults there are, and does `contains` tell the members?
pub mod Exact
-- What else is answered and written?
pub mod Besides
-- ---- Demand 2.
-- Does what is written read back, and is what is read what the layouts say?
pub mod Meaning
-- What does building a record give (CR 1)?
pub mod Building
-- What does a call answer that doesn't refuse?
pub mod Answers
-- Which bit tells of which field (CR 6)?
pub mod Presence
-- What do the calls over a set say of its members?
pub mod Told
-- ---- Demand 3, of any offer, is `History` of resume_set_laws (`Ours` is the offer that is promised), and of any way of reading files `Files` of binlog_laws
-- (`Loop` is how a caller reads one).
-- What do the order, the limits and the ranges come to, and how many bytes has a tagged record (CR 4, CR 8, CR 11)?
pub mod Rules
-- What is done with the first number too great for a gno (CR 4)?
pub mod Highest
-- ---- The requests that added calls.
-- What do the calls over two sets answer and write (CR 7)?
pub mod TwoSets
-- Which of two sets contains the other, and what is handed back (CR 9)?
pub mod Heads
-- What do totals and a report over many sets come to (CR 13)?
pub mod Reports
-- What does reading a binlog file come to, as it arrives (CR 2)?
pub mod Files
-- ---- The edges.
-- What comes out at those that the rules name? Rows, computed whole.
pub mod Edges
