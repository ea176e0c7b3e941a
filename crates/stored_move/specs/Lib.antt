-- What the calls answer.
pub mod Answering
pub mod OneResult
