pub mod answers
pub mod bags
pub mod orders
pub mod placing
pub mod shards
