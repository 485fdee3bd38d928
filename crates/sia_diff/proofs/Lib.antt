pub mod Agreement
pub mod Below
pub mod Counts
pub mod DiffSoundness
pub mod Fit
pub mod Listed
pub mod Moves
pub mod Verdicts
mod Rows
