-- The walk of a run of rows over a tree that leaves out whole nodes that are far.
pub mod Nodes
