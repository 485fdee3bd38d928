pub mod Covering
pub mod Joined
