-- What one look over the boxes shows.
pub mod Telling
pub mod Looked
