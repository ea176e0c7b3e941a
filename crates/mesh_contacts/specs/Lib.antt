-- The contacts of the pairs that entries of a mesh ask for.
pub mod Met
