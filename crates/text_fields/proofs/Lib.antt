-- The laws of the loop over the fields of a row.
pub mod Reading
