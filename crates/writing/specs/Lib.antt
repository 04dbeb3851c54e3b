-- The texts that are written, and what a function that writes one promises.
pub mod Placed
pub mod Texts
