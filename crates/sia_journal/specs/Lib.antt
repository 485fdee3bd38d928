pub mod Listed
pub mod Faults
pub mod Journal
pub mod Opening
pub mod Piece
