-- The files of lemmas, each over those before it.
pub mod PartsHold
pub mod Changes
pub mod OffRun
pub mod CommandRules
pub mod Invalid
pub mod StartUpRun
pub mod CommandsAgree
pub mod EchoInvariant
pub mod EchoProgress
pub mod MoveTimes
pub mod CommandsEnd
