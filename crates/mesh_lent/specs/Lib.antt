-- A list lent for the table of seams: blanked, and the answer over it.
pub mod Blanking
pub mod Answering
