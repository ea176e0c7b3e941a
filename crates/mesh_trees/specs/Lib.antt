-- The scratch of a mesh: the room that it needs, its boxes and its two trees, and what a row may go by.
pub mod Scratch
pub mod Planting
pub mod Forest
