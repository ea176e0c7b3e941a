-- Rows of a mesh are asked for: the checks that come first.
pub mod Asking
