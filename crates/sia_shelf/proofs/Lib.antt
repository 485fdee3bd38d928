mod Finding
mod Marking
mod Tallying
mod Tearing
