-- The loops of this crate, as laws over lists and numbers.
pub mod Scan
pub mod Put
