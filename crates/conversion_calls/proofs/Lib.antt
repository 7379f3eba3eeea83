-- Either form, one answer.
pub mod EitherForm
-- Conversions and the way back.
pub mod Converting
pub mod ConvertExact
pub mod Promised
-- When 13, 6 and 1 are said, which words 4 names, and what refusals leave.
pub mod InverseMismatch
pub mod KeyLengths
pub mod ConversionsNamed
pub mod Untouched
