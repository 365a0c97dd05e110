pub mod Hitting
pub mod Showing
