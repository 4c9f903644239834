-- The pages of definitions, each over those before it.
pub mod Lexis
pub mod Names
pub mod Numbers
pub mod Tokens
pub mod Values
pub mod EventLine
pub mod SettingsLine
pub mod Reading
pub mod Spelling
pub mod Writing
pub mod Laws
pub mod WordLaws
pub mod TextLaws
pub mod SheetLaws
pub mod TimeLaws
pub mod PlaceLaws
