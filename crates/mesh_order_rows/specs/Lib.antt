-- A row by a lent order: what it goes by, what the walk finds, and that it is the row when sorted.
pub mod Led
pub mod Sorted
