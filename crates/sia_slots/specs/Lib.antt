pub mod Slots
pub mod Work
