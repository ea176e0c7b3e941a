-- Pierced, shown: an edge that is through a triangle at the start and has left it at the end; and the two refusals of such a pair.
use Rattle.std.specs.Prelude.{ℕ, Bool, List, [], ◌∷◌, ◌≡◌, refl, ℤ, pos, neg_ℤ, ◌+ℤ◌, ◌*ℤ◌, ◌≤ℤ◌, ◌<ℤ◌}
use Rattle.std.proofs.Common.{arith}
use Rattle.std.specs.Int.Signed.{lt_z_yes}
use Rattle.whole.specs.Quote.{quotes}
use Rattle.whole.specs.Order.{of_eq, of_lt, ord, parts_le}
use Rattle.meaning.specs.Scene.{Scene, scene_of, stood_for, some_below}
use Rattle.meaning.specs.Equations.{total}
use Rattle.meaning.specs.Refusals.{Answers, given, refused, shares}
use Rattle.meaning.specs.Pierced.{stands_at, Pierced, pierced_checks}
use Rattle.meaning.specs.shown.InMotion.{weigh}
use Rattle.meaning.specs.declared.Frame.TheVariants.{Start, End}

-- the triangle of case 1 of document 01 at rest, and the edge 3 4, which goes up out of it: (1 1 -1), (1 1 1) at the start, (1 1 1), (1 1 3) at
-- the end. Edge 1 goes from the same place to corner 2; vertex 5 stands on corner 2
abbrev pub pulled_out : List ℕ → Scene
pulled_out seams =
    scene_of
    (pos 0 ∷ pos 0 ∷ pos 0 ∷ pos 0 ∷ pos 0 ∷ pos 0 ∷ pos 4 ∷ pos 0 ∷ pos 0 ∷ pos 4 ∷ pos 0 ∷ pos 0 ∷ pos 0 ∷ pos 4 ∷ pos 0 ∷ pos 0 ∷ pos 4 ∷ pos 0
    ∷ pos 1 ∷ pos 1 ∷ neg_ℤ (pos 1) ∷ pos 1 ∷ pos 1 ∷ pos 1 ∷ pos 1 ∷ pos 1 ∷ pos 1 ∷ pos 1 ∷ pos 1 ∷ pos 3
    ∷ pos 0 ∷ pos 4 ∷ pos 0 ∷ pos 0 ∷ pos 4 ∷ pos 0 ∷ [])
    (3 ∷ 4 ∷ 3 ∷ 5 ∷ []) (0 ∷ 1 ∷ 2 ∷ []) seams

-- halfway up the edge it stands at (1 1 0)
pub pierced_at_start : (seams : List ℕ) → Pierced (pulled_out seams) Start 0 0
unfolding stands_at total weigh
pierced_at_start seams = record {
  u = weigh (2 ∷ 2 ∷ []);
  v = weigh (2 ∷ 1 ∷ 1 ∷ []);
  balanced = record { sums = refl; xs = refl; ys = refl; zs = refl; times = refl };
  some = lt_z_yes tt;
}

-- at the end both ends are above it
above : (a b c d e : ℤ) → pos 0 ≤ℤ a → pos 0 ≤ℤ b → a *ℤ pos 1 +ℤ (b *ℤ pos 3 +ℤ pos 0) ≡ c *ℤ pos 0 +ℤ (d *ℤ pos 0 +ℤ (e *ℤ pos 0 +ℤ pos 0))
    → ¬ (pos 0 <ℤ (a *ℤ pos 1 +ℤ (b *ℤ pos 1 +ℤ pos 0)))
above a b c d e h k same some =
    let l : List ℤ = a ∷ b ∷ c ∷ d ∷ e ∷ [] in
    let x = of_eq l (search quotes depth 40 fits 9000) same in
    let y = of_lt l (search quotes depth 40 fits 9000) some in
    omega (arith, ord)

pub clear_at_end : (seams : List ℕ) → ¬ Pierced (pulled_out seams) End 0 0
unfolding stands_at total
clear_at_end seams t =
    above (pos (t.u 0)) (pos (t.u 1)) (pos (t.v 0)) (pos (t.v 1)) (pos (t.v 2)) (parts_le (omega arith)) (parts_le (omega arith))
    t.balanced.zs t.some

-- ---- refused: edge 2 and triangle 1 are not there; 5 before 6

pub refused_five : (Right : Bool → Type 0) → Answers (pierced_checks (pulled_out []) 2 0) Right (refused 5 0)
    × Answers (pierced_checks (pulled_out []) 0 1) Right (refused 5 0)
unfolding Answers some_below stood_for shares
refused_five Right = (refl, refl)

-- edge 1 ends at a vertex of its own, and is refused where a seam says that it stands for corner 2
pub not_sewn : (Right : Bool → Type 0) (b : Bool) → Right b → Answers (pierced_checks (pulled_out []) 1 0) Right (given b)
unfolding Answers some_below stood_for shares
not_sewn Right b right = right

pub refused_six : (Right : Bool → Type 0) → Answers (pierced_checks (pulled_out (5 ∷ 2 ∷ [])) 1 0) Right (refused 6 0)
unfolding Answers some_below stood_for shares
refused_six Right = refl
