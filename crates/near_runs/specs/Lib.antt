-- Near rows in runs: the boxes of a run at both times, and the places found by them.
pub mod Held
pub mod Near
