-- 'When and where it touched' of document 02: the time and the place of a contact, each number cut to 2^20ths.
use Rattle.std.specs.Prelude.{ℕ, zero, suc, ◌+◌, Bool, cond, [], ◌∷◌, eqb, ℤ, pos, ◌*ℤ◌, get_or, ◌≤ℤ◌, ◌<ℤ◌}
use Rattle.cutting.specs.Cut.{unit}
use Rattle.meaning.specs.Pieces.{Piece}
use Rattle.meaning.specs.Equations.{one, time_of, total, Touches}

-- n over 2^20 is at most part over whole, and short of it by less than 1 in 2^20
pub record Cut (part whole : ℤ) (n : ℕ) : Type 0 where
  pub not_above : (pos n *ℤ whole) ≤ℤ (pos unit *ℤ part)
  pub short : (pos unit *ℤ part) <ℤ (pos (n + 1) *ℤ whole)

-- weights as whole numbers; and those of the points that count, the others having 0
abbrev pub weights : (ℕ → ℕ) → ℕ → ℤ
weights w i = pos (w i)

abbrev pub only : (ℕ → Bool) → (ℕ → ℕ) → ℕ → ℕ
only counts w i = cond (counts i) (w i) 0

-- the exact time is the weighted time over the sum of the weights; k is the whole part of 2^20 times it, by all weights that solve the piece
abbrev pub TimeIs : Piece → ℕ → Type 0
TimeIs p k = (t : Touches p) → Cut (total time_of (weights t.u) p.first) (total one (weights t.u) p.first) k

-- a share is the sum of the weights of the points that count over the sum of all: of the first simplex, and of the second
abbrev pub FirstShareIs : Piece → (ℕ → Bool) → ℕ → Type 0
FirstShareIs p counts n =
    (t : Touches p) → Cut (total one (weights (only counts t.u)) p.first) (total one (weights t.u) p.first) n

abbrev pub SecondShareIs : Piece → (ℕ → Bool) → ℕ → Type 0
SecondShareIs p counts n =
    (t : Touches p) → Cut (total one (weights (only counts t.v)) p.second) (total one (weights t.v) p.second) n

-- a corner's share is the sum of its start and end weights. Which corner, counted from 0 in rising number, is each point of a moving
-- triangle's piece: 1 2 3 3'; 1 2 2' 3'; 1 1' 2' 3'
unfoldable pub corner_of_point : ℕ → ℕ → ℕ
corner_of_point zero i = get_or (0 ∷ 1 ∷ 2 ∷ 2 ∷ []) i 0
corner_of_point (suc zero) i = get_or (0 ∷ 1 ∷ 1 ∷ 2 ∷ []) i 0
corner_of_point (suc (suc k)) i = get_or (0 ∷ 0 ∷ 1 ∷ 2 ∷ []) i 0

abbrev pub at_corner : ℕ → ℕ → ℕ → Bool
at_corner k c i = eqb (corner_of_point k i) c

-- and which end, the lower 0 and the higher 1, is each point of a moving edge's piece: 1 2 2'; 1 1' 2'
unfoldable pub end_of_point : ℕ → ℕ → ℕ
end_of_point zero i = get_or (0 ∷ 1 ∷ 1 ∷ []) i 0
end_of_point (suc k) i = get_or (0 ∷ 0 ∷ 1 ∷ []) i 0

abbrev pub at_higher_end : ℕ → ℕ → Bool
at_higher_end k i = eqb (end_of_point k i) 1
