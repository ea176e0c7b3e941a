-- Of a stretch of rows the pairs whose words are asked for: what each way out of the call gives.
pub mod Kept
