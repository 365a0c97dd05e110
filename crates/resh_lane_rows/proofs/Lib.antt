pub mod Applying
pub mod Crashing
pub mod Rows
