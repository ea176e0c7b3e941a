-- The front of a series is its scene.
pub mod Fronts
