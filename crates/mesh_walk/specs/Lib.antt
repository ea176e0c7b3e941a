-- The walk of one row over a tree: what a tree in a list is, what one step passes, and the places that are found, entered or put down.
pub mod Places
pub mod Steps
pub mod PutDown
pub mod Passing
