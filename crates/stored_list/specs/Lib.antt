-- What the calls that list from stored boxes answer.
pub mod Calls
pub mod Settling
pub mod OneResult
