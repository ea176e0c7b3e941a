-- The decimal digits of a number as bytes: what they are, what they are worth, and that each gives back the other.
pub mod Digits
pub mod Byte
pub mod Value
pub mod Reading
pub mod Number
