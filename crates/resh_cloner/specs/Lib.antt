pub mod Cloning
pub mod Laws
