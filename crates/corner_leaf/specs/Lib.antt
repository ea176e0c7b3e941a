-- What the corners left say by themselves.
-- the six points of a piece as code has them
pub mod Points
-- the first place that passes a test
pub mod First
-- what the corners left say by themselves, computed
pub mod Answer
-- a corner's place seen from the base of its time, as code takes it, is its difference, whichever corners are the bases
pub mod Seen
-- the corners that are taken for a base
pub mod Base
-- what the tests of the candidate's numbers mean
pub mod Tests
-- what the corners left say by themselves is right
pub mod Right
-- what code puts in the slots is what stands there
pub mod Slotted
-- six points that lie across an axis
pub mod InPlane
