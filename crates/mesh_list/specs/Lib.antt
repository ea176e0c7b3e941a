-- A stretch of rows, counted and listed: what each way out of the calls gives.
pub mod Answering
