-- The pieces of a pair are the same pieces under other numbers: what was low is high, so that piece k of a pt pair is piece 2 - k and piece k of an
-- ee pair piece 3 - k, the points of each simplex from last to first and time 1 - t for t.
use Rattle.std.specs.Prelude.{◌≡◌, get_or}
use Rattle.std.proofs.Common.{◌∙◌, ap, arith}
use mathlib.Core.List.{List, [], map, reverse}
use Prim.Native.Nat.{ℕ, ◌+◌, ◌*◌, ◌<◌}
use Rattle.meaning.specs.Scene.{Scene, vertex_count, edge_count, triangle_count, edge_end, corner, ends_of}
use Rattle.meaning.specs.Pieces.{moving_edge, piece_count}
use Rattle.meaning.specs.Backwards.{from_last, piece_turned, time_turned}
use Rattle.meaning.specs.declared.Ends.{Ends}
use Rattle.meaning.specs.declared.Corners.{Corners}
use Rattle.meaning.specs.declared.Kind.{Kind}
use Rattle.meaning.specs.declared.Kind.TheVariants.{PointTriangle, EdgeEdge}
use Rattle.scene_checks.specs.Facts.{edge_inside, triangle_inside}
use Rattle.turning_laws.specs.Numbers.{mapped_at}
use Rattle.turning_laws.specs.Turned.{TurnsRound}

-- what was low is high
abbrev pub ends_turned : ℕ → Ends → Ends
ends_turned n e = record { low = from_last n e.high; high = from_last n e.low }

abbrev pub corners_turned : ℕ → Corners → Corners
corners_turned n c = record { low = from_last n c.high; middle = from_last n c.middle; high = from_last n c.low }

-- ---- a piece's number is one again, and turned twice it is the number

pub piece_there : (kind : Kind) (k : ℕ) → k < piece_count kind → piece_turned kind k < piece_count kind
unfolding piece_turned piece_count
piece_there PointTriangle k h = omega arith
piece_there EdgeEdge k h = omega arith

pub piece_twice : (kind : Kind) (k : ℕ) → k < piece_count kind → piece_turned kind (piece_turned kind k) ≡ k
unfolding piece_turned piece_count
piece_twice PointTriangle k h = omega arith
piece_twice EdgeEdge k h = omega arith

-- ---- the ends of an edge and the corners of a triangle, as written

module _ {s t : Scene} (h : TurnsRound s t) where
  pub edge_end_turned : (j k : ℕ) → j < edge_count s → k < 2 → edge_end t j k ≡ from_last (vertex_count s) (edge_end s j k)
  edge_end_turned j k b l =
      ap (λ (e : List ℕ). get_or e (2 * j + k) 0) h.edges ∙ mapped_at (from_last (vertex_count s)) s.edges (2 * j + k) 0 0 (edge_inside s j k b l)

  pub corner_turned : (j k : ℕ) → j < triangle_count s → k < 3 → corner t j k ≡ from_last (vertex_count s) (corner s j k)
  corner_turned j k b l =
      ap (λ (e : List ℕ). get_or e (3 * j + k) 0) h.triangles ∙ mapped_at (from_last (vertex_count s)) s.triangles (3 * j + k) 0 0 (triangle_inside s j k b l)

module _ {s t : Scene} (h : TurnsRound s t) (unsewn : s.seams ≡ []) where
  abbrev pub n : ℕ
  n = vertex_count s

  abbrev pub There : ℕ → Type 0
  There v = v < vertex_count s

  -- ---- the parts of the scene

  -- both pieces of edge j
  abbrev pub EdgeTurned : ℕ → Type 0
  EdgeTurned j =
      (moving_edge t.positions (ends_of t j) 1 ≡ reverse (map time_turned (moving_edge s.positions (ends_of s j) 0)))
      × (moving_edge t.positions (ends_of t j) 0 ≡ reverse (map time_turned (moving_edge s.positions (ends_of s j) 1)))
