-- Theorems that rest on definitions of specs/.
-- what rests on the definitions of `AllSides`
pub mod AllSides
-- what rests on the definitions of `AnyLent`
pub mod AnyLent
-- what rests on the definitions of `ShownSides`
pub mod ShownSides
