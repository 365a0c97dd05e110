pub mod Places
pub mod Below
pub mod Joins
pub mod LastCut
