pub mod Sweeping
pub mod Numbers
pub mod Working
pub mod Resting
pub mod Walking
pub mod Idling
pub mod Ending
