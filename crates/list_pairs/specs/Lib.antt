-- The list: what stands in it, and what its calls answer.
pub mod Answering
pub mod Own
pub mod Once
pub mod InOrder
pub mod Sizes
pub mod OneResult
pub mod OneRoom
