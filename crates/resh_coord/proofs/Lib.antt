mod Deciding
mod Finding
