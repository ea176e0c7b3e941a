-- What the signs of four volumes and of their sums say.
pub mod BySigns
pub mod BySignsLaws
pub mod OneSign
pub mod OneWay
pub mod Sums
