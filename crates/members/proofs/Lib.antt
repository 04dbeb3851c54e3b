pub mod Bitwise
pub mod Membership
