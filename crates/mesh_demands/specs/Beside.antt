-- A scene that stands in another behind what is before it and before what is behind it, its numbers moved up by the vertices before it. It is a part of that
-- one. So pairs of a mesh that are written alone, one behind the other, make a scene that holds each of them, whatever their kinds.
use Rattle.std.specs.Prelude.{ℕ, ◌+◌, ◌*◌, true, false, List, [], ◌++◌, map, ◌≡◌, ℤ, length}
use Rattle.meaning.specs.Scene.{Scene, scene_of}
use Rattle.mesh_demands.specs.Part.{Places}

-- what stands before and behind a scene
pub record Around : Type 0 where
  pub positions : List ℤ
  pub edges : List ℕ
  pub triangles : List ℕ
  pub positions_behind : List ℤ
  pub edges_behind : List ℕ
  pub triangles_behind : List ℕ

-- so many vertices, edges and triangles stand before it
pub record Before (r : Around) (v e t : ℕ) : Type 0 where
  pub vertices : length r.positions ≡ 6 * v
  pub edges : length r.edges ≡ 2 * e
  pub triangles : length r.triangles ≡ 3 * t

-- its lists are of whole vertices, edges and triangles
pub record Wide (p : Scene) (n m k : ℕ) : Type 0 where
  pub vertices : length p.positions ≡ 6 * n
  pub edges : length p.edges ≡ 2 * m
  pub triangles : length p.triangles ≡ 3 * k

abbrev pub amid : Around → ℕ → Scene → Scene
amid r v p =
    scene_of (r.positions ++ (p.positions ++ r.positions_behind))
    (r.edges ++ (map (λ x. v + x) p.edges ++ r.edges_behind))
    (r.triangles ++ (map (λ x. v + x) p.triangles ++ r.triangles_behind))
    []

abbrev pub moved_up : ℕ → ℕ → ℕ → Places
moved_up v e t = record { vertex = λ a. v + a; edge = λ j. e + j; triangle = λ j. t + j }
