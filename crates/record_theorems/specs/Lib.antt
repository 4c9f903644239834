-- The pages of definitions, each over those before it.
pub mod RecordPlays
pub mod RecordTheorems
pub mod RecordInstance
