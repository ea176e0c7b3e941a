-- A list of one's own: its faults entry by entry, and the answer of the whole call.
pub mod Faults
pub mod Answering
pub mod OneResult
