-- The files of lemmas, each over those before it.
pub mod NumberLaws
pub mod CommandLaws
pub mod RunLaws
pub mod AnswerLaws
pub mod ByFieldHolds
