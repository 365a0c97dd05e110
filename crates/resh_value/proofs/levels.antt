pub mod Insides
pub mod Levels
