-- What is told of further words of a series.
pub mod Telling
