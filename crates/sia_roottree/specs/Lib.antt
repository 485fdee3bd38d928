pub mod KeptNodes
pub mod SeenTree
