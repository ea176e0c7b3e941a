-- The lines of a list in its buffers, and how much of it there is.
pub mod Rendered
pub mod Sizes
