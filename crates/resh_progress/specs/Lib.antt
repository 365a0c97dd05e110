pub mod Kinds
pub mod Machines
pub mod Start
pub mod Tellings
