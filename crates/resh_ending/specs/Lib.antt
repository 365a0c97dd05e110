pub mod Calls
pub mod Shapes
pub mod Applies
