pub mod Courses
pub mod Items
pub mod Sources
pub mod Donors
pub mod Recipients
pub mod Keeping
pub mod Frames
pub mod Laws
