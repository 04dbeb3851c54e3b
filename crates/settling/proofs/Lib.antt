pub mod Telling
pub mod Settling
pub mod Standing
pub mod Written
pub mod OneAnswer
