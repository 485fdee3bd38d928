pub mod Lying
pub mod Storing
