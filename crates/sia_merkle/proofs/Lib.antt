pub mod Beside
pub mod Clashes
pub mod Climbs
pub mod Cuts
pub mod Fours
pub mod LeafSoundness
pub mod Parts
pub mod Raises
mod Shapes
pub mod Stacks
pub mod Trees
pub mod WholeGroups
pub mod Windows
