-- Laws of what stands in the bytes of a set, which any walk over them cites, and those of the check.
pub mod EntryPlaces
pub mod HeaderLaws
pub mod HeadLaws
pub mod RestLaws
pub mod CheckLaws
pub mod SetOfLaws
pub mod CursorLaws
