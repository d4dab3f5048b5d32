-- What `previous_gtids_reader` promises is said by these definitions: what the steps give (`Steps`), and what a reader holds (`Held`).
pub mod Steps
pub mod Held
