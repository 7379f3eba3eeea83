-- The tests of lengths and counts, and the checks of a batch behind them.
pub mod Lengths
pub mod BatchAnswers
pub mod BatchDone
-- Demand 3 over bytes.
pub mod BatchExact
pub mod Promised
-- When 1, 12, 6 and 8 are said, which words 4 and 11 name, and what refusals leave.
pub mod WrongLength
pub mod WrongCount
pub mod KeysExact
pub mod NamedExact
pub mod Untouched
-- Equal a and b.
pub mod SameElements
-- What is read from what is written, and round trips.
pub mod BatchParts
pub mod RoundTrips
-- The tags, written out.
pub mod TagsWritten
