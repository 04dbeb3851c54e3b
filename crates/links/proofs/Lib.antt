pub mod Filling
pub mod Linked
