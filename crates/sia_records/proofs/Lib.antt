pub mod Makings
pub mod Parts
pub mod Preparing
pub mod Slots
pub mod Roots
pub mod Asking
