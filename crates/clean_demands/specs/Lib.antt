-- Clean at the start, nothing touched: clean at the end.
-- an edge that is a side of a triangle, by the vertices stood for
pub mod Sides
-- an edge and a triangle
pub mod OnePair
-- in words: hit, touch, miss, apart
pub mod Words
-- a scene or a mesh in which every side is an edge
pub mod Mesh
-- that nothing is touched, by the list and its words
pub mod Listed
-- by the rows of a mesh, listed or near
pub mod Rows
-- that a frame is clean, by the rows of its pierced edges
pub mod Through
-- a series, from step to step
pub mod Steps
-- a drape in one line
pub mod Drape
-- what is told of a series
pub mod Told
-- scenes of an edge, a triangle and its sides, and what is computed of them
pub mod Motions
-- each hypothesis is needed
pub mod Needed
-- of what it is said
pub mod Shown
