-- The boxes of a mesh at one time, what a row over its triangles goes by, and that nothing is left open.
pub mod Spots
pub mod Grove
pub mod Once
