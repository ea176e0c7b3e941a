-- The tally after one verdict more, and what it has counted.
pub mod Tallied
pub mod Counted
