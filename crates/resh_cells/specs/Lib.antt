pub mod Lending
pub mod Cells
pub mod Cuts
pub mod Clocks
pub mod Belonging
