pub mod Prefixes
pub mod Accepting
