-- The paper as definitions, in its order. Each file says which part it renders.
pub mod Bytes
pub mod Formula
pub mod Codes
pub mod Policy
pub mod Listing
pub mod Calculus
pub mod Local
pub mod Rules
pub mod Journal
pub mod Reasons
pub mod Run
pub mod Chain
pub mod Board
