pub mod Cloning
pub mod Fetching
pub mod Cutting
pub mod Recording
pub mod Rows
