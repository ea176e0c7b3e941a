-- The contacts of a whole scene, with its list: one result, and how an answer is built.
pub mod Answering
pub mod OneResult
