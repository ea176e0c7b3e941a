-- One line of a series.
pub mod Rendered
pub mod Reading
