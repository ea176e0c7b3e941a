-- Ends and corners in rising order of the vertices stood for; pairs that are there.
pub mod Ordering
pub mod FromLists
pub mod There
