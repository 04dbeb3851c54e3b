pub mod Token
pub mod Parsing
