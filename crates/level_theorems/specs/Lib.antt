-- The pages of definitions, each over those before it.
pub mod Orders
pub mod EveryEvent
pub mod Covered
pub mod Runs
pub mod Replies
pub mod Uninterrupted
pub mod FadeTheorems
pub mod Instances
pub mod Keys
