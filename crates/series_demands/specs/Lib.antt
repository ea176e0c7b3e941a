-- What was asked of a series: one thing is told of it, the log keeps the first cause, demand 1, and demands 2 and 3 for every step.
-- one thing is told, and a longer series has the shorter one's log in front
pub mod OneTold
-- demands 2 and 3, step by step
pub mod Demand2
-- demand 3 of a series
pub mod Demand3
-- a series sent through one matrix with a shift for each boundary: there is one, and demand 3 is of it
pub mod SentSeries
-- no step before the first with a hit has a listed hit
pub mod NoneBefore
-- two outcomes of a text are one
pub mod OneSeries
-- demand 1 of the outcome
pub mod Demand1
-- what is printed is one text
pub mod OnePrinted
-- a point that falls on a triangle, rests there and comes back, over five steps
pub mod Printed
-- two results of the call are one
pub mod OneCall
-- demand 1 of the call
pub mod Demand1Call
-- demand 1 of the call as rows
pub mod CallRows
-- what is heard in numbers: nothing is cut
pub mod Few
-- the log and the refusal are read again
pub mod Heard
-- of a text
pub mod OfText
-- two results in numbers are one
pub mod OneInto
-- 'Report exact totals per verdict over the series'
pub mod Totals
