pub mod Cloned
