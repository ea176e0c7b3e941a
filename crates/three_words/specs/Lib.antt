-- From the numbers that code computes to the verdicts of the meaning.
pub mod Ready
pub mod Right
pub mod Pairs
pub mod Asked
pub mod OneResult
