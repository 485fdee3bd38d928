pub mod Sessions
pub mod Logs
pub mod State
pub mod Signing
