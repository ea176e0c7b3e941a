-- The pairs that can be listed: rows of them, and the test of one.
pub mod Rows
pub mod Meeting
