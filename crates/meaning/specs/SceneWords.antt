-- Listing and judging a scene in one call: a byte for each listed pair, in the list's order.
use Rattle.std.specs.Prelude.{ℕ, min, List, [], ◌∷◌, map, ◌≡◌, length, Result}
use Rattle.meaning.specs.Scene.{Scene}
use Rattle.meaning.specs.Resting.{PairSettled}
use Rattle.meaning.specs.Refusals.{Answers, outcome_of}
use Rattle.meaning.specs.List.{Pair, pairs, entries, room_of, list_checks, leaves}
use Rattle.meaning.specs.declared.Settled.{Settled}
use Rattle.meaning.specs.declared.Settled.TheVariants.{Hit, Miss, Touch, Apart}
use Rattle.meaning.specs.declared.Refused.{Refused}

-- a word in a lent byte buffer, which can hold no enum. 2 is left free: it is the three-case verdict's degenerate for C, and no number
-- stands for two words
unfoldable pub byte_of : Settled → ℕ
byte_of Hit = 0
byte_of Miss = 1
byte_of Touch = 3
byte_of Apart = 4

-- each pair of a list has the word that stands in its place
unfoldable pub AllSettled : Scene → List Pair → List Settled → Type 0
AllSettled s [] [] = Unit {0}
AllSettled s [] (w ∷ ws) = ⊥
AllSettled s (p ∷ ps) [] = ⊥
AllSettled s (p ∷ ps) (w ∷ ws) = PairSettled s p.kind p.first p.second w × AllSettled s ps ws

-- the list is made in a buffer that held o and holds o', the words in one that held b and holds b'. The room is the smaller of
-- the two
pub record SettledScene (s : Scene) (o o' b b' : List ℕ) (r : Result ℕ Refused) : Type 0 where
  pub answer : Answers (list_checks s (min (room_of o) (length b))) (λ n. n ≡ length (pairs s)) (outcome_of r)
  pub list : o' ≡ leaves (outcome_of r) (entries (pairs s)) o
  pub words : List Settled
  pub right : AllSettled s (pairs s) words
  pub bytes : b' ≡ leaves (outcome_of r) (map byte_of words) b
