-- Theorems that rest on definitions of specs/.
-- what rests on the definitions of `Demand3`
pub mod Demand3
-- what rests on the definitions of `Few`
pub mod Few
-- what rests on the definitions of `Heard`
pub mod Heard
-- what rests on the definitions of `OfText`
pub mod OfText
-- what rests on the definitions of `OneInto`
pub mod OneInto
-- what rests on the definitions of `SentSeries`
pub mod SentSeries
