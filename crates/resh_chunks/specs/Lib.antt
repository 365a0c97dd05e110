pub mod Bounds
pub mod Chunks
pub mod Pattern
