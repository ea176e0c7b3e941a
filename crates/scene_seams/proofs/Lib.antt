-- A list taken in pairs.
pub mod Pairs
