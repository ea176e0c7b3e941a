-- Edges through triangles at one time, row by row: whether is decided, the pierced ones of rows that are joined, and that none is left out.
pub mod Deciding
pub mod Listing
pub mod Members
