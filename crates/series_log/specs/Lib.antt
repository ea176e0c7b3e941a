-- The log that keeps the first cause.
pub mod Logged
pub mod Kept
