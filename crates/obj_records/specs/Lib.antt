-- A vertex or a face of an OBJ file: its faults, and where it goes.
pub mod Faults
pub mod Adding
