-- What `packets` promises is said by these definitions: which bytes are a tag, which numbers are a gno and an interval of them,
-- and the order of keys.
pub mod Tag
pub mod Gno
pub mod Key
pub mod Word
pub mod Kept
