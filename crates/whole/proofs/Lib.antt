-- Theorems that rest on definitions of specs/.
-- what rests on the definitions of `Cramer`
pub mod Cramer
-- what rests on the definitions of `Sized`
pub mod Sized
-- what rests on the definitions of `Sizes`
pub mod Sizes
-- what rests on the definitions of `VectorLaws`
pub mod VectorLaws
