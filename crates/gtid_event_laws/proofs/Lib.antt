-- Laws that read and written GTID records obey, in the order in which they build on each other.
pub mod Stands
pub mod WritableLaws
pub mod UntaggedBack
pub mod FieldsBack
pub mod TaggedBack
pub mod EventBack
pub mod ReadWritable
