-- Laws of the text of numbers, keys, intervals and refusals.
pub mod FillLaws
pub mod PuttingLaws
pub mod DigitLaws
pub mod KeyTextLaws
pub mod IntervalTextLaws
pub mod LineLaws
mod Examples
