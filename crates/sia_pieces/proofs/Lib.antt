pub mod Bits
pub mod FieldLaws
pub mod Tables
pub mod Values
pub mod Groups
pub mod Solutions
pub mod SolveSteps
pub mod Joins
