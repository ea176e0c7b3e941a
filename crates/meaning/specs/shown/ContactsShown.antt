-- Contacts, shown: the last coordinate that they are given for and the first that they are refused for; and of weights that solve a piece the time and
-- the shares that are cut from them, so that each point of a piece counts for the corner, or for the end, that it is.
use Rattle.std.specs.Prelude.{ℕ, [], ◌∷◌, refl, ℤ, pos, neg_ℤ}
use Rattle.std.proofs.Common.{arith}
use Rattle.std.specs.Int.Signed.{le_z_yes, lt_z_yes}
use Rattle.meaning.specs.Scene.{Scene, scene_of, stood_for, some_below}
use Rattle.meaning.specs.Pieces.{moving_edge, moving_triangle, piece_of}
use Rattle.meaning.specs.Equations.{one, time_of, total, Touches}
use Rattle.meaning.specs.Contacts.{Cut, weights, only, corner_of_point, at_corner, end_of_point, at_higher_end}
use Rattle.meaning.specs.Refusals.{given, refused, Answers, not_there, shares}
use Rattle.meaning.specs.WholeContacts.{contact_checks}
use Rattle.meaning.specs.Motion.{standing}
use Rattle.meaning.specs.shown.InMotion.{weigh, PointMeets, EdgesMeet}
use Rattle.meaning.specs.declared.Kind.TheVariants.{PointTriangle, EdgeEdge}

-- the triangle of case 1 of document 01 at rest, and a point that comes down from z
abbrev pub fall_from : ℤ → Scene
fall_from z =
    scene_of
    (pos 0 ∷ pos 0 ∷ pos 0 ∷ pos 0 ∷ pos 0 ∷ pos 0 ∷ pos 4 ∷ pos 0 ∷ pos 0 ∷ pos 4 ∷ pos 0 ∷ pos 0 ∷ pos 0 ∷ pos 4 ∷ pos 0 ∷ pos 0 ∷ pos 4 ∷ pos 0
    ∷ pos 1 ∷ pos 1 ∷ z ∷ pos 1 ∷ pos 1 ∷ neg_ℤ (pos 1) ∷ [])
    [] (0 ∷ 1 ∷ 2 ∷ []) []

-- ---- 16

module _ {A : Type 0} (Right : A → Type 0) where
  -- 262,143 is given what is right, and 262,144 is refused on either side of 0
  pub last_given : (a : A) → Right a → Answers (contact_checks (fall_from (pos 262_143)) PointTriangle 3 0) Right (given a)
  unfolding Answers some_below stood_for not_there shares
  last_given a right = right

  pub first_refused : Answers (contact_checks (fall_from (pos 262_144)) PointTriangle 3 0) Right (refused 16 0)
      × Answers (contact_checks (fall_from (neg_ℤ (pos 262_144))) PointTriangle 3 0) Right (refused 16 0)
  unfolding Answers some_below stood_for not_there shares
  first_refused = (refl, refl)

-- ---- case 1, piece 1: weights 2, 2 against 2, 0, 1, 1

abbrev pub point_weights : ℕ → ℕ
point_weights = weigh (2 ∷ 2 ∷ [])

abbrev pub corner_weights : ℕ → ℕ
corner_weights = weigh (2 ∷ 0 ∷ 1 ∷ 1 ∷ [])

pub point_touches : Touches (piece_of (fall_from (pos 1)) PointTriangle 3 0 1)
unfolding piece_of moving_triangle stood_for total weigh
point_touches = record {
  u = point_weights;
  v = corner_weights;
  balanced = record { sums = refl; xs = refl; ys = refl; zs = refl; times = refl };
  some = lt_z_yes tt;
}

-- k is a half of 2^20; the shares are a half, a quarter and a quarter
abbrev PointTime : ℕ → Type 0
PointTime k =
    let p = piece_of (fall_from (pos 1)) PointTriangle 3 0 1 in
    Cut (total time_of (weights point_weights) p.first) (total one (weights point_weights) p.first) k

abbrev CornerShare : ℕ → ℕ → Type 0
CornerShare c n =
    let p = piece_of (fall_from (pos 1)) PointTriangle 3 0 1 in
    Cut (total one (weights (only (at_corner 1 c) corner_weights)) p.second) (total one (weights corner_weights) p.second) n

pub point_cut : PointTime 524_288 × CornerShare 0 524_288 × CornerShare 1 262_144 × CornerShare 2 262_144
unfolding piece_of moving_triangle stood_for total weigh corner_of_point
point_cut = (
  record { not_above = le_z_yes tt; short = lt_z_yes tt },
  record { not_above = le_z_yes tt; short = lt_z_yes tt },
  record { not_above = le_z_yes tt; short = lt_z_yes tt },
  record { not_above = le_z_yes tt; short = lt_z_yes tt },
)

-- ---- the edges of case 9, the second moved to x: piece 0, whose points are 1 2 2' of either edge

abbrev pub cross_at : ℤ → Scene
cross_at x =
    scene_of
    (neg_ℤ (pos 2) ∷ pos 0 ∷ pos 0 ∷ neg_ℤ (pos 2) ∷ pos 0 ∷ pos 0 ∷ pos 2 ∷ pos 0 ∷ pos 0 ∷ pos 2 ∷ pos 0 ∷ pos 0
    ∷ x ∷ neg_ℤ (pos 2) ∷ pos 1 ∷ x ∷ neg_ℤ (pos 2) ∷ neg_ℤ (pos 1) ∷ x ∷ pos 2 ∷ pos 1 ∷ x ∷ pos 2 ∷ neg_ℤ (pos 1) ∷ [])
    (0 ∷ 1 ∷ 2 ∷ 3 ∷ []) [] []

-- case 9 itself, and 1 from the higher end of the first edge
abbrev pub halves : ℕ → ℕ
halves = weigh (1 ∷ 0 ∷ 1 ∷ [])

abbrev pub near_higher : ℕ → ℕ
near_higher = weigh (1 ∷ 1 ∷ 2 ∷ [])

abbrev pub twos : ℕ → ℕ
twos = weigh (2 ∷ 0 ∷ 2 ∷ [])

pub edges_touch : Touches (piece_of (cross_at (pos 0)) EdgeEdge 0 1 0) × Touches (piece_of (cross_at (pos 1)) EdgeEdge 0 1 0)
unfolding piece_of moving_edge stood_for total weigh
edges_touch = (
  record {
    u = halves;
    v = halves;
    balanced = record { sums = refl; xs = refl; ys = refl; zs = refl; times = refl };
    some = lt_z_yes tt;
  },
  record {
    u = near_higher;
    v = twos;
    balanced = record { sums = refl; xs = refl; ys = refl; zs = refl; times = refl };
    some = lt_z_yes tt;
  },
)

-- the time, and the share of the first edge and of the second at its higher end, by these weights
abbrev EdgeTime : ℤ → (ℕ → ℕ) → ℕ → Type 0
EdgeTime x u k =
    let p = piece_of (cross_at x) EdgeEdge 0 1 0 in
    Cut (total time_of (weights u) p.first) (total one (weights u) p.first) k

abbrev FirstEnd : ℤ → (ℕ → ℕ) → ℕ → Type 0
FirstEnd x u n =
    let p = piece_of (cross_at x) EdgeEdge 0 1 0 in
    Cut (total one (weights (only (at_higher_end 0) u)) p.first) (total one (weights u) p.first) n

abbrev SecondEnd : ℤ → (ℕ → ℕ) → ℕ → Type 0
SecondEnd x v n =
    let p = piece_of (cross_at x) EdgeEdge 0 1 0 in
    Cut (total one (weights (only (at_higher_end 0) v)) p.second) (total one (weights v) p.second) n

pub edges_cut : EdgeTime (pos 0) halves 524_288 × FirstEnd (pos 0) halves 524_288 × SecondEnd (pos 0) halves 524_288
    × EdgeTime (pos 1) near_higher 524_288
    × FirstEnd (pos 1) near_higher 786_432
    × SecondEnd (pos 1) twos 524_288
unfolding piece_of moving_edge stood_for total weigh end_of_point
edges_cut = (
  record { not_above = le_z_yes tt; short = lt_z_yes tt },
  record { not_above = le_z_yes tt; short = lt_z_yes tt },
  record { not_above = le_z_yes tt; short = lt_z_yes tt },
  record { not_above = le_z_yes tt; short = lt_z_yes tt },
  record { not_above = le_z_yes tt; short = lt_z_yes tt },
  record { not_above = le_z_yes tt; short = lt_z_yes tt },
)

-- ---- and in straight motion

-- halfway the point stands where the corners have it with the weights 2, 1, 1, and the edges of case 9 cross in their middles
pub point_meets : PointMeets (fall_from (pos 1)) (standing (fall_from (pos 1)) 1 2) 3 0
point_meets = record { a = 2; b = 1; c = 1; some = omega arith; place = refl }

pub edges_meet : EdgesMeet (cross_at (pos 0)) (standing (cross_at (pos 0)) 1 2) 0 1
edges_meet = record { a = 1; b = 1; c = 1; d = 1; some = omega arith; sums = refl; place = refl }
