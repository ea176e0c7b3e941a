-- Theorems that rest on definitions of specs/.
-- what rests on the definitions of `Drape`
pub mod Drape
-- that every side is an edge, by a certificate
pub mod Lent
-- what rests on the definitions of `Listed`
pub mod Listed
-- what rests on the definitions of `Mesh`
pub mod Mesh
-- what rests on the definitions of `Motions`
pub mod Motions
-- what rests on the definitions of `Needed`
pub mod Needed
-- what rests on the definitions of `OnePair`
pub mod OnePair
-- what rests on the definitions of `Shown`
pub mod Shown
-- what rests on the definitions of `Sides`
pub mod Sides
-- what rests on the definitions of `Steps`
pub mod Steps
-- what rests on the definitions of `Told`
pub mod Told
-- what rests on the definitions of `Words`
pub mod Words
