-- What `gtid_event_write` promises is said by these definitions: which records can be written (`Writable`), the payload size that
-- counts itself (`Size`), the bytes of a record (`Layout`), what the calls give (`Write`), and how many bytes a tagged record can have
-- (`Totals`).
pub mod Writable
pub mod Size
pub mod Layout
pub mod Write
pub mod Totals
