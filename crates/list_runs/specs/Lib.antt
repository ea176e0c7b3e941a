-- Runs of 16 parts and their joint boxes: what a run that misses says of its parts, how many tests there are, and runs in a list of boxes.
pub mod Joined
pub mod Tests
pub mod Filled
pub mod Once
