pub mod Differences
pub mod Writes
pub mod Shards
pub mod Decisions
pub mod Laws
