pub mod Cores
pub mod Planning
pub mod Making
pub mod Openings
pub mod Sweeping
pub mod Standing
