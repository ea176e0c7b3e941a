-- The lines of the hits of a list, how much they are, and what is printed of a scene.
pub mod Sizes
pub mod Lines
pub mod Told
