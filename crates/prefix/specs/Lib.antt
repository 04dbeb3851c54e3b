pub mod Places
pub mod Weaker
pub mod Told
