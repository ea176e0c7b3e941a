-- The two passes over a text of claims, the answer of the call, and that only one meets its promise.
pub mod Inspecting
pub mod Weighing
pub mod Answering
pub mod Checking
