-- The files of lemmas, each over those before it.
pub mod RecordRuns
pub mod StartFits
pub mod WrittenRecords
pub mod RecordsHold
pub mod PlayedRecords
