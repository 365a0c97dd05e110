pub mod BagLaws
pub mod Entries
pub mod Opening
pub mod Placed
pub mod WholeHeld
