-- A block of a series, read into the draft.
pub mod Moving
pub mod Block
pub mod Taking
pub mod Reading
