-- What was asked of a list of one's own, as theorems.
pub mod AsAlone
pub mod ContactsAsAlone
pub mod Demand1
