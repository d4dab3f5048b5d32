-- Laws of reading and of rewriting, and what they come to: reading accepts exactly what is laid out, and what is rewritten reads as the
-- same entries (`RoundTrip`).
pub mod Reading
pub mod Counting
pub mod Writing
pub mod Rewriting
pub mod Laying
pub mod Accepting
pub mod RoundTrip
