-- The files of lemmas, each over those before it.
pub mod SheetLaws
pub mod LawsHold
pub mod NumberLaws
