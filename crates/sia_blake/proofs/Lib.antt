pub mod Vectors
pub mod Rounds
pub mod Blocks
pub mod Bytes
pub mod Cuts
pub mod FourLanes
