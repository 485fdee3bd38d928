pub mod Field
pub mod Joined
pub mod Pieces
pub mod Solving
