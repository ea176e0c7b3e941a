-- What is told of a series, as numbers.
pub mod Rows
pub mod Into
