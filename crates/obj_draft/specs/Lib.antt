-- An OBJ file in a draft.
pub mod Drafting
pub mod Reading
