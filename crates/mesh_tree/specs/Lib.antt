-- Runs of 16 of runs of 16: the levels of a tree over parts by place, and what it is for a list to hold the boxes of all of its nodes.
pub mod Levels
pub mod Grown
pub mod Once
