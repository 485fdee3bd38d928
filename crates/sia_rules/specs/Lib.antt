pub mod Amounts
pub mod Answers
pub mod Sums
pub mod Values
pub mod Shape
pub mod FileContracts
