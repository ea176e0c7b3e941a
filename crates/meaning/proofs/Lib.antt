-- Theorems that rest on definitions of specs/.
-- what rests on the definitions of `InMotion`
pub mod InMotion
-- what rests on the definitions of `MeshShown`
pub mod MeshShown
