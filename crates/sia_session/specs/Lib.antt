pub mod Acts
pub mod Told
pub mod Script
pub mod Replies
pub mod Talk
pub mod Served
