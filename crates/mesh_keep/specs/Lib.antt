-- Pairs judged one behind the other, and those kept whose word is asked for; row by row.
pub mod Keeping
pub mod Entries
pub mod OfRows
