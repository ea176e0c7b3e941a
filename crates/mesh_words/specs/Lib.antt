-- The pairs that entries of a mesh ask for, and their words.
pub mod Asked
pub mod OfRows
pub mod Shown
