-- What the programs print.
pub mod Printed
pub mod Turned
