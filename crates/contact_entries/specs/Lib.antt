-- The contacts of pairs: each pair has one, and how they stand in lent buffers.
pub mod OneContact
pub mod Computed
pub mod Rows
pub mod Listed
