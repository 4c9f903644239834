-- The files of lemmas, each over those before it.
pub mod WriteLaws
pub mod CopyLaws
pub mod DigitLaws
pub mod LineLaws
pub mod ShowLaws
pub mod TextLaws
