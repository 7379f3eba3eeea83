-- Laws of records.
pub mod Checks
pub mod RecordLaws
pub mod NamedWords
pub mod Writing
-- Readers find what writers wrote.
pub mod WrittenRecords
