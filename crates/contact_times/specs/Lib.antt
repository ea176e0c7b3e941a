-- From the volumes of a hit pair to the numbers of its contact.
pub mod Earliest
pub mod Sums
pub mod Or
pub mod Hits
