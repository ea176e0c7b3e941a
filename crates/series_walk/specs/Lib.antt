-- Steps told one behind the other.
pub mod Telling
pub mod Reading
