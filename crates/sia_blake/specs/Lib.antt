pub mod Blake2b
pub mod Absorbing
pub mod Lanes
pub mod History
