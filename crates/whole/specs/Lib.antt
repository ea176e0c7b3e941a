-- Whole numbers: the laws that the rest of the house stands on.
-- the sign of a whole number
pub mod Signs
-- a machine's number whose meaning and bound are found and not written
pub mod Sized
-- how large a whole number can be, carried beside it
pub mod Sizes
-- vectors of three whole numbers, and the 3 by 3 determinant of three of them, here called their volume
pub mod Vector
-- the laws of the commutative ring ℤ that the library lacks
pub mod Laws
-- a normaliser for polynomials over ℤ: an identity of the ring holds if both sides have the same normal form, which is settled by computing
pub mod Ring
-- one line for an identity of the ring
pub mod Quote
-- the order of whole numbers by `omega`, which knows only ℕ: a number is its positive part less its negative part, and a polynomial the sum of its terms' parts, each monomial's two parts being unknowns to `omega`
pub mod Order
-- a big polynomial is written once, over a record of operations, and used at ℤ and at the expressions of the normaliser
pub mod Operations
-- the volume of three vectors is linear in each, turns with the order of the three, and grows under a linear map by the map's determinant
pub mod VectorLaws
-- Cramer's rule for four vectors of ℤ³: the four signed volumes, each of the other three vectors, combine the four to the origin, and whatever else combines them to the origin is proportional to these
pub mod Cramer
