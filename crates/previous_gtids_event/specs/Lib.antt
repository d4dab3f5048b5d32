-- What `previous_gtids_event` promises is said by these definitions: what entries are (`Entry`), how a body is laid out (`Layout`), how it is
-- read (`Previous`), how entries are written (`Rewrite`), and what the calls answer (`Answers`; those inside the crate: `Inside`).
pub mod Entry
pub mod Previous
pub mod Layout
pub mod Rewrite
pub mod Answers
pub mod Inside
