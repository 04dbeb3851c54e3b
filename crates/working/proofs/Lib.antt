pub mod Answering
pub mod Outcomes
pub mod Working
pub mod Proceeding
pub mod OneAnswer
