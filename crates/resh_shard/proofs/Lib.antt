pub mod Decided
pub mod Effects
pub mod Following
pub mod Found
pub mod Held
pub mod Logged
pub mod Moved
pub mod Turned
