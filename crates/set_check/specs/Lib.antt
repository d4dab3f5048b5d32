-- What `set_check` promises is said by `checked_of` on `lent_set` of gtid_sets, and by `judged` there. `Places` has the intervals and
-- entries at a place, `Cursor` the walk over them; `SetOf`, `Head` and the rest of `Check` are what functions inside promise.
pub mod Places
pub mod Cursor
pub mod SetOf
pub mod Head
pub mod Check
