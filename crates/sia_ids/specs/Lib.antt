pub mod Conditions
pub mod Identifiers
pub mod Transactions
