-- Demand 2 for rows of edges: an edge and a triangle without a shared vertex stand in the list of rows that are there exactly when the one is through the
-- other at that time, whatever their boxes are; nothing else stands there, and the entries rise.
use Rattle.std.specs.Prelude.{ℕ, ◌≤◌, ◌<◌, false, ◌↔◌, ◌≡◌, Result}
use Rattle.std.proofs.Common.{arith}
use mathlib.Core.List.{List, map, Memᴰ}
use Rattle.sequences.specs.Rising.{Rising}
use Rattle.meaning.specs.Scene.{Scene, triangle_count}
use Rattle.meaning.specs.MeshRows.{Lent}
use Rattle.meaning.specs.Pierced.{Pierced, end_is_corner}
use Rattle.meaning.specs.PiercedRows.{Through, through_number, through_rows, yes_of, PiercedListed}
use Rattle.meaning.specs.declared.Frame.{Frame}
use Rattle.mesh_checks.specs.Meshes.{AcceptedMesh}
use Rattle.mesh_check_laws.specs.Facts.{mesh_sized}
use Rattle.through_laws.specs.Listing.{entry_of}
use Rattle.through_laws.specs.Members.{entry_exactly, listed_there, entries_rise}
use Rattle.meaning.specs.declared.Refused.{Refused}

module _ (f : Frame) (s : Scene) (l : Lent) (first end : ℕ) (o o' : List ℕ) (r : Result ℕ Refused) (p : PiercedListed f s l first end o o' r) where
  -- what is listed
  abbrev pub listed_through : List Through
  listed_through = yes_of p.answers (through_rows f s first end)

  pub record RowsMean : Type 0 where
    pub exactly : (i j : ℕ) → first ≤ i → i < end → j < triangle_count s → end_is_corner s i j ≡ false
        → Memᴰ (entry_of i j) (map through_number listed_through) ↔ Pierced s f i j
    pub no_other : (t : Through) → Memᴰ t listed_through
        → (first ≤ t.edge) × (t.edge < end) × (t.triangle < triangle_count s) × (end_is_corner s t.edge t.triangle ≡ false)
        × Pierced s f t.edge t.triangle
    pub in_order : Rising ◌<◌ (map through_number listed_through)

  pub demand2_pierced_rows : AcceptedMesh s → RowsMean
  demand2_pierced_rows a =
      let few : triangle_count s ≤ 4_294_967_296 = omega (arith, (mesh_sized a).few_triangles) in
      record {
        exactly = entry_exactly f s first end p.answers p.right few;
        no_other = listed_there f s first end p.answers p.right;
        in_order = entries_rise f s few first end p.answers p.right;
      }
