-- The reader of scene texts: that a text means one thing, and what follows from the reader's answer.
pub mod Unique
pub mod Accepted
pub mod Copying
pub mod Answering
pub mod Using
pub mod ReadSoFar
pub mod OneReading
