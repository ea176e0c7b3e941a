-- Theorems that rest on definitions of specs/.
-- what rests on the definitions of `Crossing`
pub mod Crossing
