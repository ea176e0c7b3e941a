-- Theorems that rest on definitions of specs/.
-- what rests on the definitions of `Pieces`
pub mod Pieces
-- the verdicts and words of pairs, turned
pub mod PairsTurned
