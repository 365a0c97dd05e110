pub mod Consistent
pub mod Deciding
pub mod FetchTimes
pub mod Standing
pub mod Rows
