-- One line of an OBJ file: how it is parted into fields.
pub mod Parting
