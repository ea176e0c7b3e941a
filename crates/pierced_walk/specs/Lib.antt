-- A row of edges against triangles: the places that a walk finds, sifted by what is pierced, are the row; and a stretch of rows where there is room.
pub mod Rows
pub mod Stretching
