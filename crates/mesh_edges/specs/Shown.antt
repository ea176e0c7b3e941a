-- What is said of edges, said of a triangle with its three sides, one of them written from its higher end.
use Rattle.std.specs.Prelude.{ℕ, zero, suc, ◌<◌, false, List, [], ◌∷◌, ◌≡◌, refl}
use Rattle.std.proofs.Common.{arith}
use Rattle.meaning.specs.Scene.{Scene, scene_of}
use Rattle.mesh_orders.specs.Orders.{Order, LeadsBack, at}
use Rattle.meaning.specs.MeshEdges.{whole, bare_side, ends_fall, EdgesAre}
use Rattle.mesh_edges.specs.Sides.{EverySide, every_side}
use Rattle.mesh_edges.specs.Ends.{NoneTwice, none_twice}

abbrev pub one_triangle : Scene
one_triangle = scene_of [] (0 ∷ 1 ∷ 2 ∷ 1 ∷ 0 ∷ 2 ∷ []) (0 ∷ 1 ∷ 2 ∷ []) []

-- by places below three
below_three : (P : ℕ → Type 0) → P 0 → P 1 → P 2 → (k : ℕ) → k < 3 → P k
below_three P a b c zero h = a
below_three P a b c (suc zero) h = b
below_three P a b c (suc (suc zero)) h = c
below_three P a b c (suc (suc (suc k))) h = absurd (omega arith)

below_two : (P : ℕ → Type 0) → P 0 → P 1 → (k : ℕ) → k < 2 → P k
below_two P a b zero h = a
below_two P a b (suc zero) h = b
below_two P a b (suc (suc k)) h = absurd (omega arith)

-- its sides are edges 0, 1 and 2; edges 0, 2, 1 have rising ends
abbrev pub its_sides : List ℕ
its_sides = 0 ∷ 1 ∷ 2 ∷ []

abbrev pub by_ends : List ℕ
by_ends = 0 ∷ 2 ∷ 1 ∷ []

ways : LeadsBack 3 (at by_ends) (at by_ends)
ways =
    record {
      inside = below_three (λ k. at by_ends k < 3) (omega arith) (omega arith) (omega arith);
      returns = below_three (λ k. at by_ends (at by_ends k) ≡ k) refl refl refl;
    }

pub order_shown : Order 3 by_ends
order_shown = record { whole = refl; inverse = at by_ends; out = ways; home = ways }

pub shown_whole : EdgesAre one_triangle its_sides by_ends whole
unfolding EdgesAre
shown_whole =
    (below_three (λ k. bare_side one_triangle its_sides k ≡ false) refl refl refl, below_two (λ k. ends_fall one_triangle by_ends k ≡ false) refl refl)

pub sides_shown : EverySide one_triangle
unfolding EdgesAre
sides_shown = every_side one_triangle its_sides by_ends shown_whole.0

pub none_twice_shown : NoneTwice one_triangle
unfolding EdgesAre
none_twice_shown = none_twice one_triangle its_sides by_ends order_shown shown_whole.1
