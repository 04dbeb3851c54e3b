pub mod Choosing
mod Lending
pub mod Joined
