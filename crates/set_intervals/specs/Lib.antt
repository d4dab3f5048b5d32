-- What `set_intervals` promises is said by the definitions of `Intervals`, on those of gtid_sets.
pub mod Intervals
