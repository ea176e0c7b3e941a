-- What is told of a step.
pub mod Rows
