-- Laws that other crates cite too: how records are built, and that the numbers of every record fit their types.
pub mod BuiltLaws
pub mod FitsLaws
