-- The definitions shown on a small scene, each by computing: a point that falls through a resting triangle, one edge, and boxes for all of them.
use Rattle.std.specs.Prelude.{ℕ, Bool, true, false, not, List, [], ◌∷◌, ◌++◌, ◌≡◌, refl, ℤ, pos, neg_ℤ, set}
use Rattle.meaning.specs.Scene.{Scene, scene_of, some_below}
use Rattle.meaning.specs.StoredBoxes.{stale_box}
use Rattle.meaning.specs.Dragging.{placed, new_outside, tears_seam, edge_has, triangle_has}

abbrev pub six : ℤ → ℤ → ℤ → ℤ → ℤ → ℤ → List ℤ
six a b c d e f = a ∷ b ∷ c ∷ d ∷ e ∷ f ∷ []

-- vertices 0, 1, 2 rest, 3 goes from z = 1 to z = -1
abbrev pub positions : List ℤ
positions =
    six (pos 0) (pos 0) (pos 0) (pos 0) (pos 0) (pos 0) ++ six (pos 4) (pos 0) (pos 0) (pos 4) (pos 0) (pos 0)
    ++ six (pos 0) (pos 4) (pos 0) (pos 0) (pos 4) (pos 0)
    ++ six (pos 1) (pos 1) (pos 1) (pos 1) (pos 1) (neg_ℤ (pos 1))

abbrev pub scene : Scene
scene = scene_of positions (0 ∷ 3 ∷ []) (0 ∷ 1 ∷ 2 ∷ []) []

-- the lows of a box, then its highs: four vertices, the edge, the triangle
abbrev pub boxes : List ℤ
boxes =
    six (pos 0) (pos 0) (pos 0) (pos 0) (pos 0) (pos 0) ++ six (pos 4) (pos 0) (pos 0) (pos 4) (pos 0) (pos 0)
    ++ six (pos 0) (pos 4) (pos 0) (pos 0) (pos 4) (pos 0)
    ++ six (pos 1) (pos 1) (neg_ℤ (pos 1)) (pos 1) (pos 1) (pos 1)
    ++ six (pos 0) (pos 0) (neg_ℤ (pos 1)) (pos 1) (pos 1) (pos 1)
    ++ six (pos 0) (pos 0) (pos 0) (pos 4) (pos 4) (pos 0)

-- ---- 17

pub right_boxes : stale_box scene boxes ≡ false
unfolding some_below
right_boxes = refl

-- any one of their 36 numbers changed is seen
pub every_number_looked_at : some_below 36 (λ i. not (stale_box scene (set boxes i (pos 9)))) ≡ false
unfolding some_below
every_number_looked_at = refl

-- and no number behind them
pub none_behind : stale_box scene (boxes ++ (pos 9 ∷ pos 9 ∷ [])) ≡ false
unfolding some_below
none_behind = refl

-- ---- a move

pub six_placed : placed (six (pos 0) (pos 0) (pos 0) (pos 0) (pos 0) (pos 0) ++ six (pos 4) (pos 0) (pos 0) (pos 4) (pos 0) (pos 0)) 1
    (six (pos 1) (pos 2) (pos 3) (pos 5) (pos 6) (pos 7))
    ≡ six (pos 0) (pos 0) (pos 0) (pos 0) (pos 0) (pos 0) ++ six (pos 1) (pos 2) (pos 3) (pos 5) (pos 6) (pos 7)
six_placed = refl

pub limit_taken : new_outside (six (pos 0) (pos 0) (pos 524_287) (pos 0) (pos 0) (neg_ℤ (pos 524_287))) ≡ false
unfolding some_below
limit_taken = refl

pub past_the_limit : new_outside (six (pos 0) (pos 0) (pos 0) (pos 0) (pos 0) (neg_ℤ (pos 524_288))) ≡ true
unfolding some_below
past_the_limit = refl

-- vertex 3 sewn to vertex 0, where it stands
abbrev pub sewn : Scene
sewn =
    scene_of
    (six (pos 0) (pos 0) (pos 0) (pos 0) (pos 0) (pos 0) ++ six (pos 4) (pos 0) (pos 0) (pos 4) (pos 0) (pos 0)
    ++ six (pos 0) (pos 4) (pos 0) (pos 0) (pos 4) (pos 0)
    ++ six (pos 0) (pos 0) (pos 0) (pos 0) (pos 0) (pos 0))
    (3 ∷ 1 ∷ []) (0 ∷ 1 ∷ 2 ∷ []) (3 ∷ 0 ∷ [])

-- 15 from either side, at the end alone too; moved to its own place it takes nothing apart, nor does a vertex that is not sewn
pub first_moved : tears_seam sewn 3 (six (pos 1) (pos 0) (pos 0) (pos 0) (pos 0) (pos 0)) ≡ true
unfolding some_below
first_moved = refl

pub second_moved : tears_seam sewn 0 (six (pos 0) (pos 0) (pos 0) (pos 0) (pos 0) (pos 1)) ≡ true
unfolding some_below
second_moved = refl

pub own_place : tears_seam sewn 3 (six (pos 0) (pos 0) (pos 0) (pos 0) (pos 0) (pos 0)) ≡ false
unfolding some_below
own_place = refl

pub not_sewn : tears_seam sewn 1 (six (pos 9) (pos 9) (pos 9) (pos 9) (pos 9) (pos 9)) ≡ false
unfolding some_below
not_sewn = refl

-- a part has a vertex by its number: the edge has 3, and the triangle has 0, which 3 stands for, and not 3
pub edge_by_number : edge_has sewn 3 0 ≡ true
edge_by_number = refl

pub triangle_by_number : triangle_has sewn 3 0 ≡ false
triangle_by_number = refl
