pub mod Places
pub mod Calling
pub mod Shaping
pub mod Tops
pub mod Paying
pub mod Applying
