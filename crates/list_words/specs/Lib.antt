-- The words of a list of pairs, and their bytes.
pub mod Listed
pub mod Answering
pub mod OneResult
