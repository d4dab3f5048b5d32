-- What demand 3 says, of whatever gives events to a set and of any offer (`History`), and the one that `resume_set` promises (`Ours`).
pub mod History
pub mod Ours
