mod Cutting
mod ItemLists
pub mod Standing
mod StandsOn
mod Testing
