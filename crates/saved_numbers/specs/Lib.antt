-- Numbers of a scene as fields of its text.
pub mod Marked
