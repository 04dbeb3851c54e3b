pub mod Loops
pub mod Chosen
pub mod Shown
pub mod Inside
