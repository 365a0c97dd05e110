pub mod Lanes
pub mod Applying
pub mod Feeds
pub mod Laws
