-- What is promised of the program's lines, of its walk through a chunk, and of the set's text.
pub mod Program
