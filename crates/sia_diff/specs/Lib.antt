pub mod Chosen
pub mod Diffs
pub mod Marks
pub mod DiffSteps
