-- The last step of a series in lent buffers.
pub mod Leaving
