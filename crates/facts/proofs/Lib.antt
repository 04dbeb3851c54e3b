mod Bases
mod Compared
mod Sought
