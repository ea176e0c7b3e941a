-- Rows by whatever order is lent: what the rows of a kind go by.
pub mod Either
