pub mod MemoryBytes
pub mod SentBytes
pub mod TakenBytes
