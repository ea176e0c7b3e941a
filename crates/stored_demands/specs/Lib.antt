-- What was asked of dragging: right boxes are never refused, the list from them is the list, moves one after the other, the rows of the table,
-- and one result.
pub mod Fresh
-- moves one after the other
pub mod Chain
-- two lists of checks one behind the other, where a number may stand in both
pub mod InTwo
-- demand 1 of the calls with stored boxes
pub mod Demand1
-- 'A refusal returns its number .., and no lent byte or number changes', of the calls with stored boxes
pub mod Unchanged
-- 'After reading .. each stored box equals the one worked out from the positions'
pub mod AfterReading
-- 'Demands 2 and 3 read over the scene after the move'
pub mod AfterMoves
-- document 02, §7 after §8
pub mod SavedMoves
-- the definitions shown on a small scene, each by computing
pub mod Shown
-- dragging a seam
pub mod SewnMoves
-- all vertices that stand for one vertex
pub mod SewnTogether
-- moves one behind the other, shown: of two vertices, and of both vertices of a seam
pub mod MovedTwice
