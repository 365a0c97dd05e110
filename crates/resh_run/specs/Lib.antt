pub mod Answer
pub mod Cluster
pub mod Promises
pub mod Said
pub mod Seen
pub mod Top
pub mod Words
