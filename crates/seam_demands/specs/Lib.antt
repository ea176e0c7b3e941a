-- Document 02, §6, shown on scenes: what is accepted and listed, what is refused, and a crack that a seam closes.
pub mod Cloth
pub mod Kept
pub mod Refused
pub mod Crack
