mod GeneratedSetups
mod Meant
mod Outcomes
pub mod Pages
pub mod PlacementPlaces
mod Runs
mod Steps
mod Taken
pub mod WordLemmas
pub mod Licences
mod Walks
