-- Rows by nodes of both times where these are planted, by swept boxes else.
pub mod Ready
