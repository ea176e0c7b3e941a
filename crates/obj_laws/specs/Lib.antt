-- The lines of an OBJ file: where one ends, what its checks come to, and that the scene stays one that every call accepts.
pub mod Ended
pub mod Faces
pub mod Judged
pub mod Positive
