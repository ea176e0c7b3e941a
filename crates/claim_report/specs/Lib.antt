-- The lines of the answers to claims.
pub mod Printed
pub mod ReadSoFar
