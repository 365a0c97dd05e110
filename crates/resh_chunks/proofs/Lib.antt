pub mod BoundOrder
pub mod Keys
pub mod Tiling
