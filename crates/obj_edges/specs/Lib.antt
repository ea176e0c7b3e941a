-- Edges of faces.
pub mod Chains
pub mod Sides
