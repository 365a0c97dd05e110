pub mod Conditions
pub mod Laws
pub mod Links
pub mod Standing
