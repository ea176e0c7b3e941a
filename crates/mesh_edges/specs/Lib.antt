-- Edges by a certificate: the first number that passes, sides, ends, and the check, what its answers say.
pub mod First
pub mod Sides
pub mod Ends
pub mod Checking
pub mod Saying
pub mod Shown
