pub mod Parts
pub mod Lanes
pub mod Notes
pub mod Cuts
pub mod Laws
