-- What `resume_set` promises is said by the definitions of `Answers`, on `lent_set`, `answer` and `after` of gtid_sets, and `output` of set_join.
pub mod Answers
