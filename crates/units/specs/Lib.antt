-- The pages of definitions, each over those before it.
pub mod Numbers
pub mod Units
pub mod Laws
