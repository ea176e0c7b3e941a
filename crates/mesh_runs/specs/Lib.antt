-- Rows in runs: a box that covers a run's, the places that it meets, of which each row finds its pairs, those that are taken for a row, a row that goes
-- over these, and a stretch of rows of both kinds.
pub mod Runs
pub mod Going
pub mod Taken
pub mod Stretch
