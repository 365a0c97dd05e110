pub mod Paths
pub mod Operators
pub mod Updates
pub mod Changes
pub mod Laws
pub mod Reading
pub mod Apart
