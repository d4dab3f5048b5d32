-- What a set of transaction ids is, and what becomes of it: which ids are members (`has`), the one form in which it is written
-- (`SetForm`), how it takes in the ids of a body (`taken_set`), what its limits say (`limits`), what an offer answers (`answer`) and leaves
-- (`after`), which bytes are a set (`lent_set`), what is saved after an offer (`saved_after`), and how many ids there are (`total`).
pub mod Interval
pub mod Set
pub mod TakeIn
pub mod Limits
pub mod Run
pub mod Lent
pub mod Saved
pub mod Splice
pub mod Combine
pub mod Total
