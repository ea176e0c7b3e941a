-- Five points as the six of a piece, and the parts of a scene.
pub mod Places
pub mod Vertices
pub mod Parts
pub mod Asked
pub mod OneResult
