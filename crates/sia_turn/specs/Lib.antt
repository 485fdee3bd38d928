pub mod Entries
pub mod Tokens
pub mod Views
pub mod Turning
pub mod Moves
