-- The entries of the list: the pair of a number, and lists of pairs entered into a buffer.
pub mod Entries
pub mod UpTo
