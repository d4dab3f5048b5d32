-- Laws that the functions of this crate cite.
pub mod MarkLaws
pub mod PairLaws
pub mod WriteLaws
pub mod AnswerLaws
pub mod DifferLaws
pub mod JoinLaws
