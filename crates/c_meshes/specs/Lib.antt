-- What C hears of a call over a mesh.
pub mod Telling
