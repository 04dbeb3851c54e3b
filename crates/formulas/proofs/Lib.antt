pub mod Numbers
pub mod Weakened
pub mod Given
pub mod Growing
pub mod OnRecord
