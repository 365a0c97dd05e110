pub mod Laws
pub mod Phases
pub mod States
pub mod lemmas
