-- The pages of definitions, each over those before it.
pub mod Text
pub mod Line
pub mod Laws
