mod Following
pub mod Orders
