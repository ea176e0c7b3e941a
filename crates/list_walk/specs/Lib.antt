-- The walk: the runs that it may skip, the boxes that it is prepared with, and how many of them it tests.
pub mod Skipping
pub mod Preparing
pub mod Testing
pub mod Taking
