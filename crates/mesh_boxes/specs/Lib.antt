-- When the boxes of a mesh can be worked out, in which order they stand, and how those of edges and triangles come from those of the vertices.
pub mod Drawing
pub mod Led
pub mod Joining
pub mod Once
