pub mod Firsts
pub mod Leads
pub mod Pairs
pub mod Rulewise
pub mod Onward
