-- What `gtid_event_read` promises is said by these definitions: how an untagged event is read (`Untagged`), what fields a tagged one
-- has (`Fields`) and how it is read (`Tagged`), what is seen of either (`Seen`), and what the calls answer (`Read`). Functions inside answer `Pairs`,
-- or ask `Range`.
pub mod Seen
pub mod Untagged
pub mod Fields
pub mod Range
pub mod Tagged
pub mod Read
pub mod Pairs
pub mod Kept
