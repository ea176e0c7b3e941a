-- A mesh of any length, and scenes that are parts of it.
-- a part of a mesh
pub mod Part
-- numbers under a map that rises below a bound
pub mod Order
-- the points of a part are those of the whole
pub mod Kept
-- a mesh of any length
pub mod Meshes
-- a part of a mesh says the same of its pairs as the mesh
pub mod Says
-- seams taken off
pub mod SeamsOff
-- a scene cut out of a mesh
pub mod CutOut
-- vertices put in rising order of the vertex stood for
pub mod Sorted
-- a pair alone
pub mod Alone
-- reports of parts, joined
pub mod Joined
-- each listed pair of a mesh as a part of its own
pub mod EachAlone
-- many pairs of a mesh packed into one scene
pub mod Packed
-- a scene that stands in another behind what is before it and before what is behind it, its numbers moved up by the vertices before it
pub mod Beside
-- pairs of a mesh written alone, one behind the other, into one scene
pub mod Together
-- pairs side by side make a scene that is accepted, where their vertices are in range
pub mod Answered
-- what is asked of pairs is so of those that a mesh lists
pub mod ListedPairs
-- why the orders are kept
pub mod Needed
