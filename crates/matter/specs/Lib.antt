-- The pages of definitions, each over those before it.
pub mod Matter
pub mod Agreement
pub mod Parts
pub mod Ends
