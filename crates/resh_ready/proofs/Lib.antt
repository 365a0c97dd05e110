pub mod Lists
pub mod Pieces
pub mod Resting
pub mod Fetching
pub mod Phases
pub mod Ready
