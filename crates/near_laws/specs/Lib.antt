-- Far pairs: they touch in no piece and at no time, so near pairs have every hit and every touch.
-- a moving height that divides two parts
pub mod Divided
-- a far pair does not touch
pub mod Far
-- a culled pair is far; near is no vertex shared and not far
pub mod Near
-- near rows have every hit and every touch
pub mod Rows
-- demand 3
pub mod Moved
-- each shown of something
pub mod Shown
