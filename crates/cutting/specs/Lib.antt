-- A part of a whole as a whole number of 2^20ths, cut and not rounded, and such a number as an f64.
pub mod Cut
pub mod Steps
pub mod Floats
