-- What a call comes to.
pub mod Settled
pub mod Telling
