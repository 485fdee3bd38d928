pub mod Slots
pub mod Shelf
pub mod Tallies
