-- Boxes of the parts that have a vertex, one after the other, the others kept.
pub mod Mending
pub mod Moved
