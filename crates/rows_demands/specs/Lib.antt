-- What was asked of meshes by rows, of whatever size.
-- the refusals, number by number, and when a value is given
pub mod Refused
-- demand 1 of each call
pub mod Demand1
-- two results are one
pub mod OneResult
-- rows of vertices look at no edge, rows of edges at no triangle
pub mod OfKind
-- calls over the same rows have one result, where what decides in the one decides in the other
pub mod Carried
-- an order that is taken changes nothing
pub mod AnyLent
-- a call over rows of one kind may be lent that kind alone
pub mod OneKind
-- what a stretch of rows holds
pub mod Stretches
-- demand 2
pub mod Demand2
-- after a yes of check_edges: the list has the ee pairs of all sides
pub mod AllSides
-- the pairs whose words are asked for; stretches joined
pub mod Kept
-- demand 3
pub mod Demand3
-- near rows say of hits and touches what all rows say
pub mod NearRows
-- all rows of a scene say what the calls over scenes say
pub mod AsScene
-- each promise shown of something
pub mod Shown
-- and of two triangles, their sides and orders of their edges
pub mod ShownSides
