pub mod Parties
pub mod Choices
pub mod Renewing
pub mod Checks
pub mod Building
