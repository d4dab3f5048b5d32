-- The chunk reader: what an event does to the set that is kept (`Does`), and what a step through a chunk comes to (`Step`).
pub mod Does
pub mod Step
