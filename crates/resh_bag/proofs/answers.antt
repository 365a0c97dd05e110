pub mod Doings
pub mod Finding
