-- What the determinants of places in the positions mean, and how large they can be.
-- how large the numbers of this crate can be, from the limit of a coordinate on
pub mod Limits
-- a place in the positions
pub mod Places
-- the determinant of three vectors whose entries are at most D in size is at most 4 D^3, and not only 6 D^3
pub mod Largest
-- a difference is at most 1,048,574
pub mod Bounds
-- the minors of two vectors
pub mod Minors
-- the four signed volumes of a piece from places in the positions, and as the machine holds them
pub mod Volumes
-- a vector for a determinant, as the machine holds it
pub mod Arrows
-- the volumes of all pieces of a pair
pub mod Shared
