-- The entries of a mesh's list: the pair of a number, and numbers entered into a lent list.
pub mod Telling
pub mod Entering
