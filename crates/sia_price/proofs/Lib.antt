pub mod NewValues
pub mod Paying
