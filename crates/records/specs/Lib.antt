-- The pages of definitions, each over those before it.
pub mod Bytes
pub mod SettingsRecord
pub mod EventRecord
pub mod Layout
pub mod Written
pub mod Laws
