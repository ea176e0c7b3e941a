-- Of a stretch of rows the pairs whose words are asked for, judged and met.
pub mod Meeting
