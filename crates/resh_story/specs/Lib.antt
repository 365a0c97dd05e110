pub mod Stories
pub mod Writing
pub mod Laws
