-- What `gtid_event` promises is said by `Event`: the GTID record's values, and what each building step changes. `Parts` says it a second
-- time, part by part. `Fits` has what a record's types say of every record.
pub mod Event
pub mod Parts
pub mod Fits
