-- What is done to the start and the end of every vertex of a part is done to every point of the part's pieces.
use Rattle.std.specs.Prelude.{◌≡◌}
use Rattle.std.proofs.Common.{◌∙◌, ap}
use mathlib.Core.List.{[], ◌∷◌, map}
use Prim.Native.Nat.{ℕ, zero, suc, min, max, ◌/◌, ◌%◌}
use Rattle.meaning.specs.Scene.{Scene, edge_end, corner, ends_of, corners_of, rising}
use Rattle.meaning.specs.Pieces.{Event, starting, ending, moving_point, moving_edge, moving_triangle, Piece, piece_of}
use Rattle.meaning.specs.Motion.{first_part, second_part}
use Rattle.meaning.specs.declared.Kind.{Kind}
use Rattle.meaning.specs.declared.Kind.TheVariants.{PointTriangle, EdgeEdge}
use Rattle.meaning.specs.declared.Ends.{Ends}
use Rattle.meaning.specs.declared.Corners.{Corners}
use Rattle.theory.specs.Bounds.{Every}
use Rattle.theory.specs.InOrder.{rising_keeps, among_keeps, lower_first}

-- f takes the vertices of s that pass to those of t
pub record Follows (s t : Scene) (f : Event → Event) (P : ℕ → Type 0) : Type 0 where
  pub starts : (v : ℕ) → P v → starting t.positions v ≡ f (starting s.positions v)
  pub ends : (v : ℕ) → P v → ending t.positions v ≡ f (ending s.positions v)

-- the parts of the pair have the same vertices, in rising number
unfoldable pub SameParts : Scene → Scene → Kind → ℕ → ℕ → Type 0
SameParts s t PointTriangle i j = corners_of t j ≡ corners_of s j
SameParts s t EdgeEdge i j = (ends_of t i ≡ ends_of s i) × (ends_of t j ≡ ends_of s j)

abbrev pub mapped : (Event → Event) → Piece → Piece
mapped f p = record { first = map f p.first; second = map f p.second }

module _ {s t : Scene} {f : Event → Event} {P : ℕ → Type 0} (h : Follows s t f P) where
  pub point_follows : (v : ℕ) → P v → moving_point t.positions v ≡ map f (moving_point s.positions v)
  point_follows v p = λ i. h.starts v p i ∷ h.ends v p i ∷ []

  pub edge_follows : (e : Ends) → P e.low × P e.high → (k : ℕ) → moving_edge t.positions e k ≡ map f (moving_edge s.positions e k)
  unfolding moving_edge
  edge_follows e p zero = λ i. h.starts e.low p.0 i ∷ h.starts e.high p.1 i ∷ h.ends e.high p.1 i ∷ []
  edge_follows e p (suc k) = λ i. h.starts e.low p.0 i ∷ h.ends e.low p.0 i ∷ h.ends e.high p.1 i ∷ []

  pub triangle_follows : (c : Corners) → P c.low × P c.middle × P c.high → (k : ℕ) → moving_triangle t.positions c k ≡ map f (moving_triangle s.positions c k)
  unfolding moving_triangle
  triangle_follows c p zero =
      λ i. h.starts c.low p.0 i ∷ h.starts c.middle p.1 i ∷ h.starts c.high p.2 i ∷ h.ends c.high p.2 i ∷ []
  triangle_follows c p (suc zero) =
      λ i. h.starts c.low p.0 i ∷ h.starts c.middle p.1 i ∷ h.ends c.middle p.1 i ∷ h.ends c.high p.2 i ∷ []
  triangle_follows c p (suc (suc k)) =
      λ i. h.starts c.low p.0 i ∷ h.ends c.low p.0 i ∷ h.ends c.middle p.1 i ∷ h.ends c.high p.2 i ∷ []

  pub edge_at_follows : (j : ℕ) → ends_of t j ≡ ends_of s j → Every P (edge_end s j 0 ∷ edge_end s j 1 ∷ []) → (k : ℕ) → moving_edge t.positions (ends_of t j) k ≡ map f (moving_edge s.positions (ends_of s j) k)
  edge_at_follows j e p k =
      ap (λ (n : Ends). moving_edge t.positions n k) e
      ∙ edge_follows (ends_of s j) (rising_keeps s P (edge_end s j 0) (edge_end s j 1) p.0 p.1.0) k

  pub triangle_at_follows : (j : ℕ) → corners_of t j ≡ corners_of s j → Every P (corner s j 0 ∷ corner s j 1 ∷ corner s j 2 ∷ []) → (k : ℕ) → moving_triangle t.positions (corners_of t j) k ≡ map f (moving_triangle s.positions (corners_of s j) k)
  triangle_at_follows j e p k =
      let both = rising_keeps s P (corner s j 0) (corner s j 1) p.0 p.1.0 in
      ap (λ (n : Corners). moving_triangle t.positions n k) e
      ∙ triangle_follows (corners_of s j) (among_keeps s P (rising s (corner s j 0) (corner s j 1)) (corner s j 2) both.0 both.1 p.1.1.0) k

  pub piece_follows : (kind : Kind) (i j : ℕ) → SameParts s t kind i j → Every P (first_part s kind i) → Every P (second_part s kind j) → (k : ℕ) → piece_of t kind i j k ≡ mapped f (piece_of s kind i j k)
  unfolding SameParts piece_of first_part second_part
  piece_follows PointTriangle i j e p q k =
      λ n. record { first = point_follows i p.0 n; second = triangle_at_follows j e q k n }
  piece_follows EdgeEdge i j e p q k =
      λ n. record { first = both.0 (k / 2) n; second = both.1 (k % 2) n }
    where
      Goes : ℕ → Type 0
      Goes j = (k : ℕ) → moving_edge t.positions (ends_of t j) k ≡ map f (moving_edge s.positions (ends_of s j) k)

      both : Goes (min i j) × Goes (max i j)
      both = lower_first (λ m n. Goes m × Goes n) i j (edge_at_follows i e.0 p, edge_at_follows j e.1 q) (edge_at_follows j e.1 q, edge_at_follows i e.0 p)
