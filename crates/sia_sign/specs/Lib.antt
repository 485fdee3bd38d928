pub mod Needs
pub mod SignedText
pub mod Frivolous
pub mod Faults
pub mod Seal
