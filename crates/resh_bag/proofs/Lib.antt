pub mod answers
pub mod bags
pub mod shards
pub mod Lists
