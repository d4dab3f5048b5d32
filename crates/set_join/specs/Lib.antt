-- What `set_join` promises is said by the definitions of `Answers` and `JoinIn`, on `lent_set`, `answer`, `after` and `union` of gtid_sets. The
-- others are what functions inside promise.
pub mod Answers
pub mod JoinIn
pub mod Find
pub mod Put
pub mod Join
pub mod TakeIn
