mod Finding
pub mod FirstFault
mod Missing
mod Seals
