-- Numbers and fields in a text: where they end, what a reader of them promises, and that only one answer meets the promise.
pub mod Numerals
pub mod Field
pub mod Rows
pub mod Ended
pub mod Tabbed
pub mod Unique
