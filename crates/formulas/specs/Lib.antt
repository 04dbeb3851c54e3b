pub mod Columns
pub mod Prepared
pub mod Table
pub mod Tests
