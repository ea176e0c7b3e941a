-- A scene without seams means what it meant before there were any: each vertex stands for itself, so that parts share a vertex when they share
-- its number, ends and corners go by their own numbers, and the scene's checks are those of document 01.
use Rattle.std.specs.Prelude.{ℕ, ◌/◌, ◌%◌, Bool, true, false, not, cond, ◌||◌, List, [], ◌≡◌, refl, ltb, eqb, ℤ, length}
use Rattle.std.proofs.Math.Bool.{or-false}
use Rattle.meaning.specs.Limits.{vertex_limit, edge_limit, triangle_limit}
use Rattle.meaning.specs.Scene.{Scene, scene_of, vertex_count, edge_count, triangle_count, edge_end, corner, counts_as, stood_for, ends_of, corners_of, some_below, wrong_shape, unknown_in, unknown_vertex, broken_seam, repeated_vertex}
use Rattle.meaning.specs.Refusals.{shares}
use Rattle.meaning.specs.declared.Ends.{Ends}
use Rattle.meaning.specs.declared.Corners.{Corners}
use Rattle.meaning.specs.declared.Kind.TheVariants.{PointTriangle, EdgeEdge}

-- ---- as document 01 has it, by vertex number

abbrev pub ends_by_number : ℕ → ℕ → Ends
ends_by_number a b = cond (ltb b a) (record { low = b; high = a }) (record { low = a; high = b })

abbrev pub corners_by_number : Ends → ℕ → Corners
corners_by_number e c =
    cond (ltb c e.low) (record { low = c; middle = e.low; high = e.high })
    (cond (ltb c e.high) (record { low = e.low; middle = c; high = e.high }) (record { low = e.low; middle = e.high; high = c }))

-- 1, and 4
abbrev pub old_shape : Scene → Bool
old_shape s =
    not (eqb (length s.positions % 6) 0) || not (eqb (length s.edges % 2) 0) || not (eqb (length s.triangles % 3) 0)
    || ltb vertex_limit (vertex_count s)
    || ltb edge_limit (edge_count s)
    || ltb triangle_limit (triangle_count s)

abbrev pub old_repeated : Scene → Bool
old_repeated s =
    some_below (edge_count s) (λ j. eqb (edge_end s j 0) (edge_end s j 1))
    || some_below (triangle_count s) (λ j. eqb (corner s j 0) (corner s j 1) || eqb (corner s j 0) (corner s j 2) || eqb (corner s j 1) (corner s j 2))

-- ---- the same of a scene without seams

pub record AsBefore (s : Scene) : Type 0 where
  pub own : (v : ℕ) → counts_as s v ≡ v
  pub ends : (j : ℕ) → ends_of s j ≡ ends_by_number (edge_end s j 0) (edge_end s j 1)
  pub corners : (j : ℕ) → corners_of s j ≡ corners_by_number (ends_by_number (corner s j 0) (corner s j 1)) (corner s j 2)
  pub points : (v j : ℕ) → shares s PointTriangle v j ≡ eqb v (corner s j 0) || eqb v (corner s j 1) || eqb v (corner s j 2)
  pub edges : (i j : ℕ) → shares s EdgeEdge i j
      ≡ eqb (edge_end s i 0) (edge_end s j 0) || eqb (edge_end s i 0) (edge_end s j 1) || eqb (edge_end s i 1) (edge_end s j 0) || eqb (edge_end s i 1) (edge_end s j 1)
  pub no1 : wrong_shape s ≡ old_shape s
  pub no3 : unknown_vertex s ≡ unknown_in (vertex_count s) s.edges || unknown_in (vertex_count s) s.triangles
  pub no15 : broken_seam s ≡ false
  pub no4 : repeated_vertex s ≡ old_repeated s

six : (a b c d e f : Bool) → (a || b || c || false) || (d || e || f || false) ≡ a || b || c || d || e || f
six true b c d e f = refl
six false true c d e f = refl
six false false true d e f = refl
six false false false true e f = refl
six false false false false true f = refl
six false false false false false true = refl
six false false false false false false = refl

pub without_seams : (p : List ℤ) (e t : List ℕ) → AsBefore (scene_of p e t [])
unfolding stood_for shares some_below
without_seams p e t = record {
  own = λ v. refl;
  ends = λ j. refl;
  corners = λ j. refl;
  points = λ v j. refl;
  edges = λ i j. refl;
  no1 =
      six (not (eqb (length p % 6) 0)) (not (eqb (length e % 2) 0)) (not (eqb (length t % 3) 0)) (ltb vertex_limit (length p / 6)) (ltb edge_limit (length e / 2)) (ltb triangle_limit (length t / 3));
  no3 = or-false (unknown_in (length p / 6) e || unknown_in (length p / 6) t);
  no15 = refl;
  no4 = refl;
}
