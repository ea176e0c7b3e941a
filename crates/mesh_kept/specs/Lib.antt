-- The tally of words one behind the other.
pub mod Totals
