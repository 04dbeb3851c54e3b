pub mod Wanting
pub mod Chained
pub mod Premises
pub mod Covered
pub mod Once
