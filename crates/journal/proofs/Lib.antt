pub mod Writing
pub mod Keeping
pub mod Holding
pub mod Prepared
