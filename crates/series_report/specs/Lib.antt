-- What is told of a series, as lines.
pub mod Sizes
pub mod Lines
pub mod Whole
pub mod FromCall
