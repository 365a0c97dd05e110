pub mod Answered
pub mod Lists
pub mod OwnParts
pub mod Showing
pub mod Targeted
