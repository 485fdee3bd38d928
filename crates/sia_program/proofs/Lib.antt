pub mod EntryLines
pub mod Feeds
pub mod HashLines
pub mod ProofSoaked
pub mod Soaked
pub mod Tellings
