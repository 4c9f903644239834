-- The pages of definitions, each over those before it.
pub mod Answers
