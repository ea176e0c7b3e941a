-- Accepted meshes: the five checks at another size, what each way out of them gives, and what they have to do with a scene's.
pub mod Meshes
pub mod Checking
pub mod OfScenes
