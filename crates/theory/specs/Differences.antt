-- Every piece holds in its first simplex an event at the start and one at the end. With their places p and q as the base, each other event
-- has a difference: its place less where the straight motion from p to q stands at the event's time. p and q need not be of one vertex. The time stays a number of the
-- ring, so that nothing that follows goes by cases of start and end; at the start and at the end the difference is what code computes.
use Rattle.std.specs.Prelude.{◌≡◌, refl, [], ◌∷◌, ℤ, pos, ◌+ℤ◌, ◌-ℤ◌, ◌*ℤ◌}
use Rattle.whole.specs.Vector.{Vector, plus, minus, scale}
use Rattle.whole.specs.VectorLaws.{vector_eq}
use Rattle.whole.specs.Quote.{quotes, ring}
use Rattle.whole.specs.Cramer.{Four, each, all}
use Rattle.meaning.specs.Pieces.{Event, Piece}

abbrev pub base_at : Vector → Vector → ℤ → Vector
base_at p q t = plus (scale (pos 1 -ℤ t) p) (scale t q)

abbrev pub difference : Vector → Vector → Event → Vector
difference p q e = minus e.place (base_at p q e.time)

abbrev pub differences : Vector → Vector → Four Event → Four Vector
differences p q o = each (difference p q) o

-- ---- at the start and at the end

abbrev pub at_start : Vector → Event
at_start p = record { place = p; time = pos 0 }

abbrev pub at_end : Vector → Event
at_end p = record { place = p; time = pos 1 }

less_start : (a p q : ℤ) → a -ℤ ((pos 1 -ℤ pos 0) *ℤ p +ℤ pos 0 *ℤ q) ≡ a -ℤ p
less_start a p q = ring (a ∷ p ∷ q ∷ []) (search quotes depth 40 fits 9000) refl

less_end : (a p q : ℤ) → a -ℤ ((pos 1 -ℤ pos 1) *ℤ p +ℤ pos 1 *ℤ q) ≡ a -ℤ q
less_end a p q = ring (a ∷ p ∷ q ∷ []) (search quotes depth 40 fits 9000) refl

pub difference_start : (p q a : Vector) → difference p q (at_start a) ≡ minus a p
difference_start p q a =
    vector_eq (less_start a.x p.x q.x) (less_start a.y p.y q.y) (less_start a.z p.z q.z)

pub difference_end : (p q a : Vector) → difference p q (at_end a) ≡ minus a q
difference_end p q a = vector_eq (less_end a.x p.x q.x) (less_end a.y p.y q.y) (less_end a.z p.z q.z)

-- ---- the two forms

-- where the base stands among the six events of a piece
pub data Form : Type 0 where
  -- it is the first simplex
  alone : Form
  -- it stands around another event of the first simplex, as in both pieces of a moving edge
  around : Form

-- p q | four others; p r q | three others: the four others in the order in which they are written
unfoldable pub formed : Form → Vector → Vector → Four Event → Piece
formed alone p q o = record { first = at_start p ∷ at_end q ∷ []; second = all o }
formed around p q o =
    record { first = at_start p ∷ o.v0 ∷ at_end q ∷ []; second = o.v1 ∷ o.v2 ∷ o.v3 ∷ [] }
