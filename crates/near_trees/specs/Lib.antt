-- The nodes of a mesh's two trees at the start and at the end, behind the scratch that rows need.
pub mod Frames
pub mod Standing
