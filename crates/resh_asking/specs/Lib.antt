pub mod Servings
pub mod Steps
pub mod Gathered
pub mod Turns
pub mod Served
