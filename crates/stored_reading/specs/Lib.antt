-- A scene brought in with its boxes: a scene in front of larger buffers, and each way out of the two calls.
pub mod Front
pub mod Reading
pub mod Using
-- two OBJ files
pub mod Importing
pub mod ImportOnce
