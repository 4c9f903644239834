-- The pages of definitions, each over those before it.
pub mod Table
pub mod Brings
pub mod TaskAfter
pub mod Fields
pub mod Letters
pub mod ByField
