pub mod levels
pub mod reading
pub mod ChangeLaws
pub mod FieldLaws
pub mod FieldSteps
pub mod HexDigits
pub mod MapEntries
pub mod Names
pub mod SortedLists
mod Standing
pub mod WholeLaws
