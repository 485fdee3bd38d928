pub mod Costs
pub mod Payments
