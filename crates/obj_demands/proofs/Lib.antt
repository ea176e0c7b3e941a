-- Theorems that rest on definitions of specs/.
-- what rests on the definitions of `EdgesOfFaces`
pub mod EdgesOfFaces
