pub mod Gathered
pub mod Opened
pub mod Reopened
pub mod SortedEntries
pub mod ValidSetups
