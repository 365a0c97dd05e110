pub mod Escapes
pub mod RisingNames
pub mod TaggedNumbers
pub mod Walked
