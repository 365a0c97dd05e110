pub mod Fates
pub mod Spans
