pub mod Marks
pub mod Beginning
pub mod Advancing
pub mod Dropping
pub mod Reporting
pub mod Rows
