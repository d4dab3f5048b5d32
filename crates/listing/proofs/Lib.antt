-- Laws of the listing's text.
pub mod IntervalTextLaws
pub mod EntryTextLaws
pub mod SetTextLaws
pub mod EventTextLaws
pub mod TakenTextLaws
pub mod Longest
pub mod Whole
mod Examples
