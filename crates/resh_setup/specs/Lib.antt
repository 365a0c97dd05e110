pub mod Documents
pub mod Names
pub mod Steps
pub mod Validity
