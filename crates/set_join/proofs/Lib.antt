-- Laws that the functions of this crate cite.
pub mod FindLaws
pub mod PutLaws
pub mod JoinLaws
pub mod AnswerLaws
pub mod RoomLaws
pub mod EntryLaws
pub mod LawfulLaws
pub mod TakenLaws
pub mod FoldLaws
pub mod JoinInLaws
