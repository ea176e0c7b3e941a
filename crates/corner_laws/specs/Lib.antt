-- Weights of a piece where corners are left out.
-- numbers for the corners of both simplices in one run, those of the first simplex first, and when they balance
pub mod Level
-- a corner is left out where its weight is 0, so nothing is renumbered
pub mod Left
-- 'The points left allow at most one solution'
pub mod AtMostOne
-- among finitely many places with weights w and shares c, not all shares 0
pub mod Tightest
-- weights that can be moved
pub mod Leave
-- two of six places taken out, and the four others in their order
pub mod Others
-- numbers with the sign of their simplex, plus in the first and minus in the second
pub mod Signed
-- two corners as base, one at the start and one at the end, and the four others
pub mod Slots
-- four slots for the four corners that are no base
pub mod Filled
-- where some volume of the four slots is not 0, the volumes are the one candidate for weights
pub mod Candidate
-- vectors that depend on one another, with the numbers that show it
pub mod Flat
-- where all volumes of the four slots are 0 in each of three turns of the axes, the differences of the corners left depend on one another even without any one of them
pub mod Dependent
-- where all volumes are 0 in every turn, weights for the corners left can be had with one more of them left out
pub mod Opened
-- a singular piece has weights exactly when it has some with one corner left out, and that corner may lie in either simplex
pub mod OneOut
-- where a vertex rests, its end stands where its start does, and an end's weight can be put on its start
pub mod AtRest
-- where a simplex holds a vertex at both times and that vertex rests, its two points differ in time alone
pub mod SingularAtRest
