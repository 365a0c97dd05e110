pub mod Changing
pub mod Unheard
