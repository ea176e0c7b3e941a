-- A series in one call.
pub mod Answering
