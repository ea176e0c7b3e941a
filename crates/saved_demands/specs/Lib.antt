-- Document 02, §7 as theorems: a scene that is saved and read, a text that is read and saved.
pub mod Records
pub mod Fronts
pub mod ReadBack
pub mod Demand1
pub mod Saving
