pub mod Sums
pub mod Supplies
pub mod Rounds
pub mod Serving
pub mod Working
