-- The binlog file as it arrives: what a file is (`Format`), why a reader stops (`Stop`), the place in it after each byte (`Place`), what the
-- events do on the way (`Run`), how a file is laid out (`Layout`), and what the walking calls answer (`Walk`, `Held`).
pub mod Format
pub mod Stop
pub mod Place
pub mod Run
pub mod Layout
pub mod Walk
pub mod Held
