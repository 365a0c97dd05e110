mod Sums
mod Counting
mod Dealing
pub mod Standing
