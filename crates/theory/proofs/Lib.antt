-- Theorems that rest on definitions of specs/.
-- what rests on the definitions of `Gathered`
pub mod Gathered
-- what rests on the definitions of `Judged`
pub mod Judged
-- what rests on the definitions of `Moved`
pub mod Moved
-- what rests on the definitions of `OneVerdict`
pub mod OneVerdict
-- what rests on the definitions of `RationalVerdicts`
pub mod RationalVerdicts
-- what rests on the definitions of `Rewritten`
pub mod Rewritten
-- what rests on the definitions of `SevenPieces`
pub mod SevenPieces
-- what rests on the definitions of `Shapes`
pub mod Shapes
-- what rests on the definitions of `Singular`
pub mod Singular
-- what rests on the definitions of `Spread`
pub mod Spread
