-- What an answer of reading says of the buffer.
pub mod Within
