-- The report of a list in its buffers, and of a text.
pub mod Whole
pub mod FromCalls
pub mod Fits
pub mod ReadSoFar
pub mod OneReport
