-- The volumes of all pieces of a pair: of each piece the four that `volumes_at` would give.
use Rattle.std.specs.Prelude.{List, ℕ, ◌+◌, ◌≤◌, ℤ, length}
use Rattle.std.proofs.Common.{arith}
use Rattle.exact.specs.Places.{Room}
use Rattle.exact.specs.Volumes.{four, volumes_at, Holds}
use Rattle.exact.specs.declared.shared.PointVolumes.{PointVolumes}
use Rattle.exact.specs.declared.shared.EdgeVolumes.{EdgeVolumes}

-- a vertex's six numbers are in the list: its start from v on, its end from v + 3 on
pub record Moving (ps : List ℤ) (v : ℕ) : Type 0 where
  pub six : v + 6 ≤ length ps

module _ {ps : List ℤ} {v b : ℕ} (h : Moving ps v) (k : Moving ps b) where
  pub at_start_lem : Room ps v b
  at_start_lem = record { place = omega (arith, h.six); base = omega (arith, k.six) }

  pub at_end_lem : Room ps (v + 3) (b + 3)
  at_end_lem = record { place = omega (arith, h.six); base = omega (arith, k.six) }

-- a point p against the pieces of a triangle a b c: a b c c', a b b' c', a a' b' c', each seen from p at its own time
pub record PointVolumesAt (ps : List ℤ) (p a b c : ℕ) (r : PointVolumes) : Type 0 where
  pub holds0 : Holds r.first (volumes_at ps (four a b c (c + 3)) (four p p p (p + 3)))
  pub holds1 : Holds r.second (volumes_at ps (four a b (b + 3) (c + 3)) (four p p (p + 3) (p + 3)))
  pub holds2 : Holds r.third (volumes_at ps (four a (a + 3) (b + 3) (c + 3)) (four p (p + 3) (p + 3) (p + 3)))

-- an edge l h against an edge m n, piece A or B of each. Both pieces of the first hold its lower end at the start and its higher end at the end:
-- starts are seen from the one and ends from the other
pub record EdgeVolumesAt (ps : List ℤ) (l h m n : ℕ) (r : EdgeVolumes) : Type 0 where
  pub holds0 : Holds r.aa (volumes_at ps (four h m n (n + 3)) (four l l l (h + 3)))
  pub holds1 : Holds r.ab (volumes_at ps (four h m (m + 3) (n + 3)) (four l l (h + 3) (h + 3)))
  pub holds2 : Holds r.ba (volumes_at ps (four (l + 3) m n (n + 3)) (four (h + 3) l l (h + 3)))
  pub holds3 : Holds r.bb (volumes_at ps (four (l + 3) m (m + 3) (n + 3)) (four (h + 3) l (h + 3) (h + 3)))
