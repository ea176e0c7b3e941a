-- Of a stretch of rows the pairs whose words are asked for.
pub mod Stretch
