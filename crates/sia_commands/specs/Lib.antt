pub mod OutJobs
pub mod Filling
