pub mod fields
pub mod sequence
