-- Laws that several proofs of this crate and of those above it cite.
pub mod Tags
