-- Sums of determinants in the range that coordinates had at first.
pub mod InRange
pub mod Quick
