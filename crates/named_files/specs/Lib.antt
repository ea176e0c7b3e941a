-- What is said of files that were read.
pub mod Files
