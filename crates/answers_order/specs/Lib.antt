-- What two answers say, one behind the other.
pub mod InOrder
