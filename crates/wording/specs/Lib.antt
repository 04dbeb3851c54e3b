pub mod Words
pub mod Waiting
pub mod Prefixed
