mod Counting
mod Framing
mod Putting
