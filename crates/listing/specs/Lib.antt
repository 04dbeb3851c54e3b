pub mod Forms
pub mod Whole
pub mod Lines
pub mod Outcome
