pub mod Giving
mod Writing
mod Pooling
pub mod Ruling
pub mod Unnamed
mod Upkeeping
pub mod Interleaved
