pub mod ByRecipient
pub mod ByShard
pub mod Locality
pub mod Merged
pub mod Owners
pub mod Parting
pub mod Partition
