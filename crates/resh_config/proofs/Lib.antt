mod ClientLemmas
mod DocumentLemmas
mod DocumentShapes
mod KeyLemmas
mod ListLemmas
mod Outcomes
mod PlanLemmas
pub mod Readings
mod RisingIds
mod SamePlaces
mod SetupLemmas
mod SortedMembers
mod StepLemmas
mod WordLemmas
