pub mod Mail
pub mod Rule
