pub mod FrameLemmas
pub mod SendLemmas
pub mod MessageLemmas
pub mod RequestLaws
pub mod AnswerLaws
pub mod FrameLaws
