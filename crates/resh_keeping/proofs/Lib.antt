pub mod Places
pub mod Shards
pub mod Rows
pub mod Kept
