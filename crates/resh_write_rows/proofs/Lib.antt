pub mod Donating
pub mod Fed
pub mod Rows
pub mod Sealing
pub mod Serving
pub mod Storing
pub mod Telling
pub mod Writing
