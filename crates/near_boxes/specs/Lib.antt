-- Far by boxes at the start and at the end: who is far from boxes is far from all that lies in them; and far as code tests it.
pub mod Far
pub mod Nodes
pub mod Parts
