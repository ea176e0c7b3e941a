-- Boxes copied; boxes spread and marked; the places that are marked.
pub mod Copying
pub mod Marked
pub mod Taking
