-- What was asked of an import of two OBJ files and of what they print.
-- the edges of faces
pub mod Edges
-- the edges of a file that is read are those of its triangles
pub mod EdgesOfFaces
-- demand 1, by file and line
pub mod Faults
pub mod SkippedShown
pub mod Demand1
-- what is printed is one text, and is read again
pub mod OnePrinted
pub mod KeptScene
