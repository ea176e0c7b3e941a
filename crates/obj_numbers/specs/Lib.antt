-- Numbers of an OBJ file: how the loops that read them go.
pub mod Finding
pub mod Worth
pub mod Sizing
