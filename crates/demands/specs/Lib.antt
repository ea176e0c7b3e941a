-- The demands, clause by clause, as theorems about the meaning.
-- demand 1
pub mod Demand1
-- demand 1 in a line of a text
pub mod LineTable
-- demand 1 of texts
pub mod TextTable
-- 'A refusal returns its number (and line or count), and no lent byte or number changes'
pub mod Unchanged
-- document 02, §9
pub mod Entries
-- demand 2, of every scene whatever
pub mod Demand2
-- 'A pair is culled when it shares no vertex number and isn't listed', by the vertex stood for
pub mod Standing
-- demand 3
pub mod Demand3
-- 'Shown cases' of document 01
pub mod Table
-- the scene that demand 3 speaks of, made
pub mod Sending
-- 'Prove the twelve cases as one table under a single statement'
pub mod Cases
-- shown cases in straight motion, of which only the cull speaks
pub mod InMotion
-- sentences of document 01 that are about single scenes and texts
pub mod SmallScenes
-- the report of what was read of a text
pub mod ReadTexts
-- where two questions have the same checks and the same right verdicts, whatever meets the promises answers them alike
pub mod SameAnswer
-- a scene that writes the ends of its edges and the corners of its triangles in another order passes the same checks
pub mod StillAccepted
-- 'The order in which the scene writes the ends of an edge or the corners of a triangle changes nothing'
pub mod AnyWriting
-- 'Played backwards' of document 02, for a scene without seams
pub mod PlayedBackwards
-- what a seam means where 15 refuses none, in a scene of any length
pub mod Sewn
-- 'They cut two faces that share an edge along different diagonals, and a corner slips through the crack'
pub mod NoCracks
-- the two vertices of a seam stand for one
pub mod StandForOne
-- a point as a column of five numbers, the determinant of five of them, and both with letters for the numbers, so that an identity is settled by computing
pub mod Columns
-- 'By Cramer's rule each weight is, up to one common factor, a signed determinant of the other five points with rows x, y, z, at-start, at-end'
pub mod FivePoints
-- 'Given this on standard input, the report program prints exactly'
pub mod Printed
-- 'The order in which the scene writes the ends of an edge or the corners of a triangle changes nothing', of texts
pub mod AnyText
-- 'Try these against it'
pub mod Barred
-- 'Try these against it', of lists
pub mod BarredLists
-- document 02, §12
pub mod BoxTests
-- document 02, §11
pub mod Claims
-- document 02, §11, printed: one result, and whose fault a line tells
pub mod ClaimsPrinted
-- a scene without seams means what it meant before there were any
pub mod NoSeams
-- 'Sharing and corner order now go by the vertex stood for', of document 02
pub mod StoodFor
