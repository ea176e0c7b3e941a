-- Pairs that rest.
pub mod Rests
