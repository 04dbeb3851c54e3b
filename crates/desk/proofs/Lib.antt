pub mod Answering
pub mod Case
pub mod Finishes
