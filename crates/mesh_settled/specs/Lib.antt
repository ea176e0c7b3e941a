-- A stretch of rows, listed and judged.
pub mod Settling
