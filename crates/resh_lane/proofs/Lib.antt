pub mod Fitting
pub mod Ordered
pub mod Staying
pub mod Testing
