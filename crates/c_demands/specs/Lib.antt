-- What a caller in C hears, and that two results are one.
pub mod OneResult
pub mod OneOwn
pub mod OneStored
pub mod OneImporting
pub mod OneMesh
