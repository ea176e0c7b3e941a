-- A row of a mesh's list: what is asked of a pair, and that the places that a walk finds, sifted by this, are the row.
pub mod Asking
pub mod Sifting
pub mod Rows
