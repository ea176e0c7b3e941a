-- The line of a claim: that a text means one thing, and what the functions that read one promise.
pub mod Rendered
pub mod Reading
pub mod Stepping
