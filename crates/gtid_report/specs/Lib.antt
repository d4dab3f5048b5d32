-- What the program's report is of, and its text.
pub mod Program
