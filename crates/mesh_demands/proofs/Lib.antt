-- Theorems that rest on definitions of specs/.
-- what rests on the definitions of `Alone`
pub mod Alone
-- what rests on the definitions of `Answered`
pub mod Answered
-- what rests on the definitions of `Beside`
pub mod Beside
-- what rests on the definitions of `CutOut`
pub mod CutOut
-- what rests on the definitions of `EachAlone`
pub mod EachAlone
-- so the one call gives all of their words
pub mod Given
-- what rests on the definitions of `Joined`
pub mod Joined
-- what rests on the definitions of `Kept`
pub mod Kept
-- what rests on the definitions of `ListedPairs`
pub mod ListedPairs
-- what rests on the definitions of `Packed`
pub mod Packed
-- what rests on the definitions of `Says`
pub mod Says
-- what rests on the definitions of `SeamsOff`
pub mod SeamsOff
-- what rests on the definitions of `Together`
pub mod Together
