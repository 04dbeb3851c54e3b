pub mod Accepting
pub mod OneAnswer
pub mod Promises
