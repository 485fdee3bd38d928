pub mod Marking
pub mod PutImages
pub mod Pairing
pub mod Freeing
