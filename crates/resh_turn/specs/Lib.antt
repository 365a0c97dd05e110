pub mod Held
pub mod Replay
pub mod Sight
pub mod Turns
