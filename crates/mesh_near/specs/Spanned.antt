-- When a pair can be looked at: its parts are there, and every end and every corner is a vertex. No seam is looked at, so it is said of the lists.
use Rattle.std.specs.Prelude.{ℕ, ◌/◌, ◌<◌, ◌||◌, List, [], ◌≡◌, ℤ, length}
use Rattle.std.proofs.Math.Bool.{false}
use Rattle.std.proofs.Math.Dec.{leb}
use borrow.Author.Tests.{leb-false}
use Rattle.meaning.specs.Scene.{Scene, scene_of, vertex_count, edge_count, triangle_count, edge_end, corner}
use Rattle.meaning.specs.Refusals.{not_there}
use Rattle.meaning.specs.declared.Kind.{Kind}
use Rattle.meaning.specs.declared.Kind.TheVariants.{PointTriangle, EdgeEdge}
use Rattle.answers.specs.Below.{or_left, or_rest}
use Rattle.scene_checks.specs.Facts.{SoundWithin}

module _ (p : List ℤ) (e t : List ℕ) (kind : Kind) (i j : ℕ) where
  abbrev unsewn : Scene
  unsewn = scene_of p e t []

  pub record Spanned : Type 0 where
    pub there : not_there unsewn kind i j ≡ false
    pub ends : (m k : ℕ) → m < edge_count unsewn → k < 2 → edge_end unsewn m k < vertex_count unsewn
    pub corners : (m k : ℕ) → m < triangle_count unsewn → k < 3 → corner unsewn m k < vertex_count unsewn

-- the parts of a pair, and their vertices
module _ {p : List ℤ} {e t : List ℕ} {kind : Kind} {i j : ℕ} (so : Spanned p e t kind i j) where
  pub point_there : kind ≡ PointTriangle → (i < length p / 6) × (j < length t / 3)
  unfolding not_there
  point_there k =
      let h : leb (length p / 6) i || leb (length t / 3) j ≡ false = rw k at so.there in
      (leb-false _ _ (or_left _ _ h), leb-false _ _ (or_rest (leb (length p / 6) i) _ h))

  pub edges_there : kind ≡ EdgeEdge → (i < length e / 2) × (j < length e / 2)
  unfolding not_there
  edges_there k =
      let h : leb (length e / 2) i || leb (length e / 2) j ≡ false = rw k at so.there in
      (leb-false _ _ (or_left _ _ h), leb-false _ _ (or_rest (leb (length e / 2) i) _ h))

-- a pair is there, whatever the seams are
there_unsewn : (s : Scene) (kind : Kind) (i j : ℕ) → not_there s kind i j ≡ false
    → not_there (scene_of s.positions s.edges s.triangles []) kind i j ≡ false
unfolding not_there
there_unsewn s PointTriangle i j h = h
there_unsewn s EdgeEdge i j h = h

-- a pair that is there can be looked at in every scene that can be judged
pub spanned : {s : Scene} {B : ℕ} → SoundWithin B s → (kind : Kind) (i j : ℕ) → not_there s kind i j ≡ false
    → Spanned s.positions s.edges s.triangles kind i j
spanned {s} a kind i j h = record { there = there_unsewn s kind i j h; ends = a.ends; corners = a.corners }
