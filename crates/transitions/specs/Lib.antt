-- The pages of definitions, each over those before it.
pub mod Types
pub mod Search
pub mod RemainingTime
pub mod Options
pub mod CurrentLevel
pub mod Coupling
pub mod Commands
pub mod Fade
pub mod MovePeriod
pub mod Scene
pub mod Causes
pub mod Tasks
pub mod Events
pub mod Actions
pub mod Laws
pub mod Matter
