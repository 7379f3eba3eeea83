-- When calls say Done.
pub mod Lengths
pub mod WhenDone
pub mod Behind
-- Demand 3 over bytes.
pub mod Converted
pub mod CheckExact
pub mod Outcomes
pub mod DecapsulateExact
pub mod OpenExact
pub mod Promised
-- When 6 and 8 are said, which words 4 and 11 name, and what refusals leave.
pub mod NotInvertible
pub mod StreamExhausted
pub mod LocatedExact
pub mod CodesRead
pub mod Untouched
-- Equal a and b.
pub mod SameElements
-- Records already made, and round trips.
pub mod Encapsulations
pub mod BareEncapsulations
pub mod SealedEntries
pub mod RecordsOpen
pub mod GeneratedKeys
pub mod RoundTrips
