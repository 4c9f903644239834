-- The files of lemmas, each over those before it.
pub mod SetterLaws
