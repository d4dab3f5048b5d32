-- Laws of this crate's definitions: in the form in which its functions use them (`UntaggedLaws`, `FieldLaws`, `TaggedLaws`,
-- `ReadLaws`, `PresentLaws`), and what holds of every record that is read (`FieldRanges`, `Ranges`).
pub mod UntaggedLaws
pub mod FieldLaws
pub mod FieldRanges
pub mod TaggedLaws
pub mod ReadLaws
pub mod PresentLaws
pub mod Ranges
pub mod NamedLaws
