pub mod Clashing
pub mod HandedOut
pub mod SeatClashes
pub mod SeatedRuns
pub mod Seating
