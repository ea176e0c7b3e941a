-- A table of seams with room for any number of vertices.
pub mod Sewing
