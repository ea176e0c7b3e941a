-- What the sums of a claim mean, how large they can be, and that they decide it.
pub mod Sums
pub mod Sides
pub mod Decides
