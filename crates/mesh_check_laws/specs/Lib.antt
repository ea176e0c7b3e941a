-- What the checks of a mesh give to whoever passes them, and a mesh that passes them and is no scene.
pub mod Facts
pub mod Shown
