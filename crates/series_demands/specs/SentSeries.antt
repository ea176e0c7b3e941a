-- The series that demand 3 speaks of, made: the scene sent as a scene is, with the shifts of the first two boundaries, and each block sent with the
-- shift of its own. So demand 3 of a series is of no empty set; and it leads from two texts that are read, of which one is the other sent.
use Rattle.std.specs.Prelude.{ℕ, zero, suc, ◌+◌, ◌*◌, ◌<◌, ◌≡◌, refl, ℤ, pos}
use mathlib.Core.List.{List, [], ◌∷◌, flat_map, Memᴰ}
use Rattle.std.proofs.Math.Path.{ap}
use Rattle.std.proofs.Common.{◌∙◌, arith}
use Rattle.std.proofs.Math.ListN.{get_or}
use Rattle.whole.specs.Vector.{Vector, plus}
use Rattle.whole.specs.VectorLaws.{Matrix, apply, vector_eq}
use Rattle.sequences.specs.Gather.{gather}
use Rattle.sequences.specs.Range.{over, times}
use Rattle.sequences.specs.Blocks.{gather_at}
use Rattle.meaning.specs.Scene.{Scene, Accepted, vertex_count, vector_at, some_below, stood_for}
use Rattle.meaning.specs.Series.{Series, step_after, steps_from, steps_of}
use Rattle.demands.specs.Table.{neg, at, numbered}
use Rattle.demands.specs.Sending.{up_to, send, turning}
use Rattle.series_demands.specs.Demand3.{BlockMoves, AllAccepted}

-- ---- accepted, one by one and all together

pub each_gives_all : (ss : List Scene) → ((s : Scene) → Memᴰ s ss → Accepted s) → AllAccepted ss
unfolding AllAccepted
each_gives_all [] each = tt
each_gives_all (s ∷ ss) each = (each s (Memᴰ.head refl), each_gives_all ss (λ t m. each t (Memᴰ.tail m)))

-- ---- a series sent

-- the three numbers of a point
abbrev pub three_of : Vector → List ℤ
three_of p = p.x ∷ p.y ∷ p.z ∷ []

module _ (m : Matrix) (shift : ℕ → Vector) where
  abbrev pub sent_end : ℕ → List ℤ → ℕ → List ℤ
  sent_end n e v = three_of (plus (apply m (vector_at e (3 * v))) (shift n))

  unfoldable pub send_block : ℕ → ℕ → List ℤ → List ℤ
  unfolding gather
  send_block n count e = gather (sent_end n e) 0 count

  -- the first of them as boundary n
  unfoldable pub send_blocks : ℕ → ℕ → List (List ℤ) → List (List ℤ)
  send_blocks n count [] = []
  send_blocks n count (e ∷ es) = send_block n count e ∷ send_blocks (n + 1) count es

  unfoldable pub send_series : Series → Series
  send_series x = record { scene = send m (shift 0) (shift 1) x.scene; blocks = send_blocks 2 (vertex_count x.scene) x.blocks }

  sent_number : (n count : ℕ) (e : List ℤ) (v k i : ℕ) → v < count → k < 3 → i ≡ v * 3 + k
      → get_or (send_block n count e) i (pos 0) ≡ get_or (sent_end n e v) k (pos 0)
  unfolding send_block
  sent_number n count e v k i h l at =
      ap (λ (j : ℕ). get_or (send_block n count e) j (pos 0)) at ∙ gather_at (sent_end n e) 3 (λ j. refl) count v k (pos 0) h l

  pub block_sent : (n count : ℕ) (e : List ℤ) → BlockMoves m shift n count e (send_block n count e)
  block_sent n count e v h =
      vector_eq (sent_number n count e v 0 (3 * v) h (omega arith) (omega arith)) (sent_number n count e v 1 (3 * v + 1) h (omega arith) (omega arith)) (sent_number n count e v 2 (3 * v + 2) h (omega arith) (omega arith))

-- ---- one of two blocks: the scene of case 1, whose point comes back and falls again

abbrev pub back : List ℤ
back = pos 0 ∷ pos 0 ∷ pos 0 ∷ pos 4 ∷ pos 0 ∷ pos 0 ∷ pos 0 ∷ pos 4 ∷ pos 0 ∷ pos 1 ∷ pos 1 ∷ pos 2 ∷ []

abbrev pub again : List ℤ
again = pos 0 ∷ pos 0 ∷ pos 0 ∷ pos 4 ∷ pos 0 ∷ pos 1 ∷ pos 0 ∷ pos 4 ∷ pos 0 ∷ pos 1 ∷ pos 1 ∷ neg 3 ∷ []

abbrev pub two_blocks : Series
two_blocks = record { scene = (numbered 1).scene; blocks = back ∷ again ∷ [] }

-- a shift for each boundary, no two alike
abbrev pub apart_from : ℕ → Vector
apart_from n = at (pos (5 + n)) (pos (3 * n)) (neg 7)

pub two_blocks_accepted : AllAccepted (steps_of two_blocks)
unfolding AllAccepted steps_from step_after gather over times some_below stood_for
two_blocks_accepted = (
  record { shapely = refl; in_range = refl; known = refl; sewn_well = refl; distinct = refl },
  (
    record { shapely = refl; in_range = refl; known = refl; sewn_well = refl; distinct = refl },
    (record { shapely = refl; in_range = refl; known = refl; sewn_well = refl; distinct = refl }, tt),
  ),
)

pub sent_too_accepted : AllAccepted (steps_of (send_series turning apart_from two_blocks))
unfolding AllAccepted steps_from step_after send_series send_blocks send_block send up_to flat_map gather over times some_below stood_for
sent_too_accepted = (
  record { shapely = refl; in_range = refl; known = refl; sewn_well = refl; distinct = refl },
  (
    record { shapely = refl; in_range = refl; known = refl; sewn_well = refl; distinct = refl },
    (record { shapely = refl; in_range = refl; known = refl; sewn_well = refl; distinct = refl }, tt),
  ),
)
