-- Meshes of any size: the list row by row, near rows, an entry as one number of 64 bits, and all of it shown of something.
pub mod Rows
pub mod Near
pub mod Entries
pub mod Shown
