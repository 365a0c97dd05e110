pub mod ActionLaws
pub mod Rising
mod Answered
pub mod Differences
mod NumberLaws
pub mod PathLaws
mod PathSteps
mod ReadLemmas
pub mod ReadPaths
mod Neighbours
