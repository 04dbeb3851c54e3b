pub mod Verdicts
pub mod Numbered
pub mod Cells
pub mod Stages
pub mod Ends
pub mod Above
pub mod Finish
pub mod OneAnswer
