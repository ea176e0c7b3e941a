-- A scene cut out of a mesh: some of its vertices, in rising order of the vertex stood for, no two of which stand for one; and some of its edges and
-- triangles over these, the edges in rising place. It has no seams, it is a part of the mesh, and it is accepted where it is small enough.
use Prim.Native.Nat.{ℕ, suc, ◌+◌, ◌*◌, ◌≤◌, ◌<◌}
use Rattle.std.specs.Prelude.{Bool, true, false, cond, ◌≡◌, eqb, pos, nat_abs}
use mathlib.Core.List.Memᴰ
use mathlib.Core.List.{List, [], ◌∷◌, map, Memᴰ}
use Rattle.std.proofs.Common.{⊎_elim, sym, arith, eqb-true}
use Rattle.std.proofs.Math.Path.{refl}
use Rattle.std.proofs.Math.ListN.{length, get_or}
use Rattle.std.proofs.lemmas.Bool.{eqb-false}
use Rattle.sequences.specs.Gather.{gather}
use Rattle.sequences.specs.Rising.{Rising}
use Rattle.meaning.specs.Scene.{Scene, scene_of, vertex_count, edge_count, triangle_count, start_of, end_of}
use Rattle.meaning.specs.Text.{coordinates}
use Rattle.theory.specs.Bounds.{Every}
use Rattle.theory.specs.Written.{Lower, ends_written, corners_written}
use Rattle.sequences.specs.Blocks.{gather_wide}
use Rattle.mesh_demands.specs.Part.{Places}

-- ---- the scene

-- the place of v in a list
unfoldable pub place_in : List ℕ → ℕ → ℕ
place_in [] v = 0
place_in (w ∷ l) v = cond (eqb w v) 0 (suc (place_in l v))

-- the vertices vs, the edges es and the triangles ts of s, the ends and corners under the numbers that they have among vs
abbrev pub cut_out : Scene → List ℕ → List ℕ → List ℕ → Scene
cut_out s vs es ts =
    scene_of (gather (λ a. coordinates (start_of s (get_or vs a 0)) (end_of s (get_or vs a 0))) 0 (length vs))
    (gather (λ j. map (place_in vs) (ends_written s (get_or es j 0))) 0 (length es))
    (gather (λ j. map (place_in vs) (corners_written s (get_or ts j 0))) 0 (length ts))
    []

-- where they stand in s
abbrev pub cut_at : List ℕ → List ℕ → List ℕ → Places
cut_at vs es ts = record { vertex = λ a. get_or vs a 0; edge = λ j. get_or es j 0; triangle = λ j. get_or ts j 0 }

-- v is one of them
abbrev pub OneOf : List ℕ → ℕ → Type 0
OneOf vs v = Memᴰ v vs

-- the six coordinates of a vertex of the mesh are in the range -B to B
abbrev pub InRange : ℕ → Scene → ℕ → Type 0
InRange B s v = (k : ℕ) → k < 6 → nat_abs (get_or s.positions (6 * v + k) (pos 0)) ≤ B

-- what can be cut out so
pub record Cuttable (s : Scene) (vs es ts : List ℕ) : Type 0 where
  pub vertices : (v : ℕ) → OneOf vs v → v < vertex_count s
  pub vertices_rise : Rising (Lower s) vs
  pub edges : (e : ℕ) → OneOf es e → (e < edge_count s) × Every (OneOf vs) (ends_written s e)
  pub edges_rise : Rising ◌<◌ es
  pub triangles : (t : ℕ) → OneOf ts t → (t < triangle_count s) × Every (OneOf vs) (corners_written s t)

-- ---- places

pub place_there : (l : List ℕ) (v : ℕ) → OneOf l v → (place_in l v < length l) × (get_or l (place_in l v) 0 ≡ v)
unfolding place_in
place_there [] v m = absurd (Memᴰ.not-nil m)
place_there (w ∷ l) v m = go (eqb w v) refl (place_there l v)
  where
    go : (b : Bool) → eqb w v ≡ b → (OneOf l v → (place_in l v < length l) × (get_or l (place_in l v) 0 ≡ v))
        → (cond b 0 (suc (place_in l v)) < suc (length l)) × (get_or (w ∷ l) (cond b 0 (suc (place_in l v))) 0 ≡ v)
    go true e later = (omega arith, eqb-true w v e)
    go false e later =
        ⊎_elim (λ q. absurd (eqb-false w v e (sym q))) (λ n. let (a, b) = later n in (omega arith, b)) (Memᴰ.cases_cons m)

module _ (s : Scene) (vs es ts : List ℕ) where
  abbrev cut : Scene
  cut = cut_out s vs es ts

  -- ---- its numbers

  pub positions_long : length cut.positions ≡ 6 * length vs
  positions_long = omega (arith, gather_wide (λ a. coordinates (start_of s (get_or vs a 0)) (end_of s (get_or vs a 0))) 6 (λ a. refl) 0 (length vs))

  pub edges_long : length cut.edges ≡ 2 * length es
  edges_long = omega (arith, gather_wide (λ j. map (place_in vs) (ends_written s (get_or es j 0))) 2 (λ j. refl) 0 (length es))

  pub triangles_long : length cut.triangles ≡ 3 * length ts
  triangles_long = omega (arith, gather_wide (λ j. map (place_in vs) (corners_written s (get_or ts j 0))) 3 (λ j. refl) 0 (length ts))

  pub vertices_many : vertex_count cut ≡ length vs
  vertices_many = omega (arith, positions_long)

  pub edges_many : edge_count cut ≡ length es
  edges_many = omega (arith, edges_long)

  pub triangles_many : triangle_count cut ≡ length ts
  triangles_many = omega (arith, triangles_long)
