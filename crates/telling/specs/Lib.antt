pub mod Text
pub mod Shelf
