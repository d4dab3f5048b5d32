-- What `text` promises is said by these definitions, in ASCII: numbers and bytes (`Digits`), keys (`Keys`), intervals (`Intervals`), and the
-- line of a refusal (`Lines`). `Inside` is what functions inside promise.
pub mod Digits
pub mod Keys
pub mod Intervals
pub mod Lines
pub mod Inside
