-- The three demands for an edge and a triangle at one time.
pub mod Demand1
pub mod Demand2
pub mod Demand3
-- and for rows of edges of a mesh: the table, which stand in the list, that a map changes none of it, and a list shown
pub mod RowsRefused
pub mod RowsMean
pub mod RowsSent
pub mod RowsShown
