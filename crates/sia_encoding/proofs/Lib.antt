mod DigitLemmas
pub mod ElementLemmas
pub mod Answering
mod Decodings
