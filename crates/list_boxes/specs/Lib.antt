-- Swept boxes as numbers in a list: what it is for a list to hold the boxes of a scene.
pub mod Kept
pub mod Storing
pub mod Working
pub mod Filling
pub mod Parts
pub mod Once
