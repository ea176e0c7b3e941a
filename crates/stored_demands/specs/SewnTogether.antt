-- All vertices that stand for one vertex: of every seam they have both vertices or neither, so that moving them all to one place is dragging a seam
-- as `SewnMoves` has it.
use Rattle.std.specs.Prelude.{ℕ, zero, suc, ◌≤◌, ◌<◌, Bool, true, false, cond, List, [], ◌∷◌, ◌≡◌, refl, eqb, ℤ}
use Rattle.std.proofs.Common.{⊎_elim, sym, ap, ◌∙◌, arith, eq-eqb, ne_eqb}
use Rattle.sequences.specs.Range.{le_or_lt}
use Rattle.meaning.specs.Scene.{Scene, scene_of, Accepted, vertex_count, sewn, onto, counts_as}
use Rattle.demands.specs.StandForOne.{stand_for_one}
use Rattle.stored_laws.specs.Torn.{together}
use Rattle.stored_demands.specs.Chain.{Dragged, Right}
use Rattle.stored_demands.specs.SewnMoves.{unsewn, to_one_place, placed_all, has, Whole, seam_dragged}

-- ---- all that stand for x, of the first n vertices

unfoldable pub as_good : Scene → ℕ → ℕ → List ℕ
as_good s x zero = []
as_good s x (suc n) = cond (eqb (counts_as s n) x) (n ∷ as_good s x n) (as_good s x n)

none_above : (s : Scene) (x n u : ℕ) → n ≤ u → has (as_good s x n) u ≡ false
unfolding as_good has
none_above s x zero u h = refl
none_above s x (suc n) u h = go (none_above s x n u (omega arith)) (eqb (counts_as s n) x)
  where
    go : has (as_good s x n) u ≡ false → (b : Bool) → has (cond b (n ∷ as_good s x n) (as_good s x n)) u ≡ false
    go below true = rw (ne_eqb u n (omega arith), below)
    go below false = below

pub has_as_good : (s : Scene) (x n u : ℕ) → u < n → has (as_good s x n) u ≡ eqb (counts_as s u) x
unfolding as_good has
has_as_good s x zero u h = absurd (omega arith)
has_as_good s x (suc n) u h = ⊎_elim last (λ lt. there lt (eqb (counts_as s n) x) ∙ has_as_good s x n u lt) (le_or_lt n u)
  where
    here : (b : Bool) → has (cond b (n ∷ as_good s x n) (as_good s x n)) n ≡ b
    here true = rw (eq-eqb n n refl)
    here false = none_above s x n n (omega arith)

    last : n ≤ u → has (as_good s x (suc n)) u ≡ eqb (counts_as s u) x
    last le = let same : u ≡ n = omega arith in rw same (here (eqb (counts_as s n) x))

    there : u < n → (b : Bool) → has (cond b (n ∷ as_good s x n) (as_good s x n)) u ≡ has (as_good s x n) u
    there lt true = rw (ne_eqb u n (omega arith))
    there lt false = refl

-- ---- dragging a seam

-- just the vertices that stand for x, in any order, repeated or not
abbrev pub JustThose : Scene → ℕ → List ℕ → Type 0
JustThose s x vs = (u : ℕ) → u < vertex_count s → has vs u ≡ eqb (counts_as s u) x

pub there_are : (s : Scene) (x : ℕ) → JustThose s x (as_good s x (vertex_count s))
there_are s x u h = has_as_good s x (vertex_count s) u h

pub whole_seams : (s : Scene) → Accepted s → (x : ℕ) (vs : List ℕ) → JustThose s x vs → Whole s vs
whole_seams s a x vs all k h =
    let so = together a k h in
    all (sewn s k) so.there ∙ ap (λ (u : ℕ). eqb u x) (stand_for_one s a k h) ∙ sym (all (onto s k) (omega (arith, so.there, so.below)))

-- every vertex that stands for the vertex that v stands for, moved to one place with the seams left out: with its seams the scene is accepted, and
-- its stored boxes are the ones worked out
pub sewn_dragged : (s : Scene) (b : List ℤ) (v : ℕ) (vs : List ℕ) (c b' : List ℤ) → Right s b → JustThose s (counts_as s v) vs
    → Dragged (unsewn s) b (to_one_place vs c) b' → Right (scene_of (placed_all s.positions vs c) s.edges s.triangles s.seams) b'
sewn_dragged s b v vs c b' so all d = seam_dragged s b vs c b' so (whole_seams s so.accepted (counts_as s v) vs all) d
