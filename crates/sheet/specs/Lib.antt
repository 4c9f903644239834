-- The pages of definitions, each over those before it.
pub mod Lines
pub mod Play
pub mod Laws
