-- How large the lines of a report are.
pub mod Lines
pub mod ContactLines
