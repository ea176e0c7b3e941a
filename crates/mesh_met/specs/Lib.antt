-- A stretch of rows, listed, judged and met.
pub mod Meeting
