pub mod Facts
pub mod OneLine
