-- What `two_sets` promises is said by the definitions of `Answers`, on `lent_set` and `combined` of gtid_sets, and by `JoinIn` of resume_set. The others
-- are what functions inside promise.
pub mod Marks
pub mod Pairs
pub mod Differ
pub mod Write
pub mod Answers
