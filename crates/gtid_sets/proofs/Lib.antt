-- Laws of sets of transaction ids, for the functions over sets and the promises about them.
pub mod Bools
pub mod IntervalLaws
pub mod SetLaws
pub mod TakeInLaws
pub mod FormLaws
pub mod LimitLaws
pub mod RunLaws
pub mod KeyLaws
pub mod ByteLaws
pub mod LentLaws
pub mod SavedLaws
pub mod SpliceLaws
pub mod SweepLaws
pub mod CombineLaws
pub mod TotalLaws
