-- From verdicts and six points to the four words.
pub mod Six
pub mod Words
pub mod Singular
pub mod Rests
pub mod Deciding
pub mod OneResult
