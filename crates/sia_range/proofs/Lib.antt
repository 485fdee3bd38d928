pub mod ByteLeaves
pub mod Kept
pub mod Judging
pub mod OwnAccepted
pub mod RangePlaces
pub mod RangeSoundness
pub mod UpdateSoundness
