-- The call over rows of edges: what each way out of it gives, and that it has one result.
pub mod Answering
pub mod OneResult
