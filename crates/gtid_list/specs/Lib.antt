-- What the program's text is.
pub mod Program
