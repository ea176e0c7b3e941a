-- Straight motion, of which only the cull speaks: at time p / q each vertex stands at ((q - p) start + p end) / q.
use Rattle.std.specs.Prelude.{ℕ, ◌-◌, ◌≤◌, ◌<◌, List, [], ◌∷◌, map, ◌≡◌, pos, ◌<ℤ◌}
use Rattle.whole.specs.Vector.{Vector, plus, scale}
use Rattle.meaning.specs.Scene.{Scene, start_of, end_of, edge_end, corner}
use Rattle.meaning.specs.Equations.{total}
use Rattle.meaning.specs.Boxes.{x_axis, y_axis, z_axis}
use Rattle.meaning.specs.declared.Kind.{Kind}
use Rattle.meaning.specs.declared.Kind.TheVariants.{PointTriangle, EdgeEdge}

-- q times the place of vertex v at time p / q
abbrev pub standing : Scene → ℕ → ℕ → ℕ → Vector
standing s p q v = plus (scale (pos (q - p)) (start_of s v)) (scale (pos p) (end_of s v))

-- the vertices of the two parts of a pair
unfoldable pub first_part : Scene → Kind → ℕ → List ℕ
first_part s PointTriangle i = i ∷ []
first_part s EdgeEdge i = edge_end s i 0 ∷ edge_end s i 1 ∷ []

unfoldable pub second_part : Scene → Kind → ℕ → List ℕ
second_part s PointTriangle j = corner s j 0 ∷ corner s j 1 ∷ corner s j 2 ∷ []
second_part s EdgeEdge j = edge_end s j 0 ∷ edge_end s j 1 ∷ []

-- nonnegative whole weights, with the same sum above 0 in both parts, give one place
pub record Together (a b : List Vector) : Type 0 where
  pub u : ℕ → ℕ
  pub v : ℕ → ℕ
  pub some : pos 0 <ℤ total (λ c. pos 1) (λ i. pos (u i)) a
  pub sums : total (λ c. pos 1) (λ i. pos (u i)) a ≡ total (λ c. pos 1) (λ i. pos (v i)) b
  pub xs : total x_axis (λ i. pos (u i)) a ≡ total x_axis (λ i. pos (v i)) b
  pub ys : total y_axis (λ i. pos (u i)) a ≡ total y_axis (λ i. pos (v i)) b
  pub zs : total z_axis (λ i. pos (u i)) a ≡ total z_axis (λ i. pos (v i)) b

-- at some rational time from start to end the two parts have a place in common
pub record TouchInMotion (s : Scene) (kind : Kind) (i j : ℕ) : Type 0 where
  pub p : ℕ
  pub q : ℕ
  pub within : p ≤ q
  pub positive : 0 < q
  pub together : Together (map (standing s p q) (first_part s kind i)) (map (standing s p q) (second_part s kind j))
