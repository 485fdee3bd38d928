pub mod Fitting
pub mod Issue
pub mod Taxes
