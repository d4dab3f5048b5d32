-- What `abi` promises is said by the definitions of the crates that it calls; `Answers` gives the cases of an offer as numbers
-- and the entry at a place, `Flat` a GTID record as bytes, `FlatReport` a report, and `FlatBinlog` a binlog reader.
pub mod Answers
pub mod Flat
pub mod FlatReport
pub mod FlatBinlog
