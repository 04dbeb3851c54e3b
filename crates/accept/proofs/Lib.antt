pub mod Accepting
pub mod OneAnswer
