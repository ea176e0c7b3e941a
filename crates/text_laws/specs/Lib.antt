-- Texts made of lines, over any grammar.
pub mod Below
pub mod Unique
pub mod Going
pub mod Ahead
pub mod Feed
