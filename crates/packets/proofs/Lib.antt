-- Laws that other crates cite too: of keys, tags and gnos; and what they are made of.
pub mod Tests
pub mod Keys
pub mod WordLaws
pub mod OrderWalk
pub mod TagLaws
pub mod GnoLaws
pub mod KeptLaws
pub mod OrderLaws
