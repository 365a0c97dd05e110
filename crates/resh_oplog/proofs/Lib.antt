pub mod Contents
pub mod Later
mod Reading
mod Rising
