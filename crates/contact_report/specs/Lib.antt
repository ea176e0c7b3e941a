-- The contacts of a scene as lines, and of a text.
pub mod Whole
pub mod FromCalls
pub mod ReadSoFar
