pub mod Order
pub mod Every
pub mod Spelled
pub mod Codes
