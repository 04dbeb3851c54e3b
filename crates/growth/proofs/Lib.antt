pub mod Adding
pub mod Covering
pub mod Growing
pub mod Joined
