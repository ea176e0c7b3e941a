-- Theorems that rest on definitions of specs/.
-- what rests on the definitions of `Barred`
pub mod Barred
-- what rests on the definitions of `Cases`
pub mod Cases
-- two faces either side of a seam share an edge, which is what no cracks are said of
pub mod EitherSide
-- what rests on the definitions of `NoCracks`
pub mod NoCracks
