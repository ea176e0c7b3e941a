-- Entries held in scratch, each as two numbers, and taken from there.
pub mod Held
