pub mod Turning
pub mod Asking
pub mod Going
pub mod Shown
