pub mod Absorbing
pub mod Cutting
pub mod Fitting
pub mod GoingOn
pub mod LaneFeeding
pub mod Positions
