-- One line of a scene text read into a draft: what is put there for a record, what a seam is held to, and what the line does.
pub mod Putting
pub mod Holding
pub mod Drafting
