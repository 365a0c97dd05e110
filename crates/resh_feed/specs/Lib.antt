pub mod Items
pub mod Effects
pub mod Fits
pub mod Lanes
pub mod Feeds
pub mod Laws
