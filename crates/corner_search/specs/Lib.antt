-- Cloth at rest: when a degenerate piece touches.
pub mod Says
pub mod Step
pub mod Settles
pub mod Sixes
pub mod Starts
pub mod Decided
