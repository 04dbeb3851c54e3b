pub mod Placing
pub mod Decimal
pub mod Lines
