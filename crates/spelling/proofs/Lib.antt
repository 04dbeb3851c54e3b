pub mod Breaks
pub mod Tokenised
pub mod Counted
