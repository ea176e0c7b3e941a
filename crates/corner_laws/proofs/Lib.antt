-- Theorems that rest on definitions of specs/.
-- what rests on the definitions of `AtRest`
pub mod AtRest
