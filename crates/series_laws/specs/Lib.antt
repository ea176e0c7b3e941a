-- A series: its steps, their hits and its text, and what follows of one that was read.
-- the steps from left to right
pub mod Stepping
-- the front of a series: its scene
pub mod Front
-- a series with a block more
pub mod Longer
-- a text without a fault
pub mod Faultless
-- what was read so far
pub mod PartWay
-- every step of a series that was read is accepted
pub mod AllAccepted
-- its hits are the listed pairs that are hit
pub mod TrueHits
