-- Accepted scenes: what the five checks give to whoever passes them, and how an answer is built on them.
pub mod Accepting
pub mod Facts
pub mod Ways
pub mod Checking
pub mod AsWritten
pub mod InRows
