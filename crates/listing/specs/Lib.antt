-- What `listing` promises is said by these definitions: the text of an entry and a set (`SetText`), and the text of an event (`EventText`);
-- numbers, keys and intervals as text are those of crate text. `Inside` is what functions inside promise.
pub mod SetText
pub mod EventText
pub mod Inside
