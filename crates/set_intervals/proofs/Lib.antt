-- Laws of the intervals that stand in some bytes, and of the walks over them.
pub mod Standing
pub mod Walks
pub mod Splicing
