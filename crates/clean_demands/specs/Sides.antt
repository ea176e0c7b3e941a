-- An edge is a side of a triangle by the vertices stood for, and then it is cut as the triangle's own side is: the triangle's corners are taken in
-- rising order of the vertices stood for, and so are the edge's ends, in whatever order either is written.
use Prim.Native.Nat.{ℕ, zero, suc, min, max, ◌≤◌}
use Rattle.std.proofs.Common.{arith, sym, ap, subst₂, ltb-true, ltb-false, eqb-true}
use Rattle.std.proofs.Math.Decide.{dec_le}
use Rattle.std.specs.Prelude.{◌≡◌, refl, Bool, true, false}
use Rattle.meaning.specs.Scene.{Scene, edge_end, corner, counts_as, same, before, rising, among, ends_of}
use Rattle.meaning.specs.Pieces.{moving_edge, piece_of, piece_count}
use Rattle.meaning.specs.Equations.{Touch}
use Rattle.meaning.specs.declared.Ends.{Ends}
use Rattle.meaning.specs.declared.Corners.{Corners}
use Rattle.meaning.specs.declared.Kind.TheVariants.{EdgeEdge}
use Rattle.theory.specs.NoCrack.{Sewn, cut_alike}
use Rattle.theory.specs.SamePoints.{touch_turned}
use Rattle.theory.specs.Written.{rising_either_way}
use Rattle.pierced_laws.specs.SomeWeights.{SomeTouches}

-- edge e lies between the vertices a and b: its ends stand for the same two, in either order of writing
pub data Between (s : Scene) (e a b : ℕ) : Type 0 where
  along : counts_as s (edge_end s e 0) ≡ counts_as s a → counts_as s (edge_end s e 1) ≡ counts_as s b → Between s e a b
  against : counts_as s (edge_end s e 0) ≡ counts_as s b → counts_as s (edge_end s e 1) ≡ counts_as s a → Between s e a b

-- the edges x, y and z are the sides of triangle j, each from a corner to the next
pub record SidesOf (s : Scene) (j x y z : ℕ) : Type 0 where
  pub first : Between s x (corner s j 0) (corner s j 1)
  pub second : Between s y (corner s j 1) (corner s j 2)
  pub third : Between s z (corner s j 2) (corner s j 0)

-- ---- edge i touches in no piece what is cut so

module _ (s : Scene) (i : ℕ) where
  pub record ClearOf (e : Ends) : Type 0 where
    pub none : (m n : ℕ) → ¬ Touch (moving_edge s.positions (ends_of s i) m) (moving_edge s.positions e n)

  pub cut_so : {d e : Ends} → ((n : ℕ) → moving_edge s.positions d n ≡ moving_edge s.positions e n) → ClearOf d → ClearOf e
  cut_so same h = record { none = λ m n t. h.none m n (rw (same n) t) }

-- an ee pair has the edge with the lower place first: nothing touched in its pieces, either edge touches no piece of the other
module _ (s : Scene) where
  abbrev Apart : ℕ → ℕ → Type 0
  Apart a b = (m n : ℕ) → ¬ Touch (moving_edge s.positions (ends_of s a) m) (moving_edge s.positions (ends_of s b) n)

  lower_first_apart : (i x : ℕ) → ¬ SomeTouches s EdgeEdge i x → Apart (min i x) (max i x)
  unfolding piece_of piece_count moving_edge
  lower_first_apart i x h zero zero t = h (record { which = 0; there = omega arith; has = t })
  lower_first_apart i x h zero (suc n) t = h (record { which = 1; there = omega arith; has = t })
  lower_first_apart i x h (suc m) zero t = h (record { which = 2; there = omega arith; has = t })
  lower_first_apart i x h (suc m) (suc n) t = h (record { which = 3; there = omega arith; has = t })

  pub clear_of_edge : (i x : ℕ) → ¬ SomeTouches s EdgeEdge i x → ClearOf s i (ends_of s x)
  clear_of_edge i x h = record { none = go (dec_le i x) }
    where
      go : Dec (i ≤ x) → Apart i x
      go (yes o) = subst₂ Apart (omega arith) (omega arith) (lower_first_apart i x h)
      go (no o) = let turned : Apart x i = subst₂ Apart (omega arith) (omega arith) (lower_first_apart i x h) in λ m n t. turned n m (touch_turned t)

-- ---- which way round a side is written

module _ {s : Scene} (sewn : Sewn s) where
  turned_alike : (a b n : ℕ) → moving_edge s.positions (rising s a b) n ≡ moving_edge s.positions (rising s b a) n
  turned_alike a b n = go (same s a b) refl
    where
      go : (t : Bool) → same s a b ≡ t → moving_edge s.positions (rising s a b) n ≡ moving_edge s.positions (rising s b a) n
      go true h = let e : counts_as s a ≡ counts_as s b = eqb-true (counts_as s a) (counts_as s b) h in cut_alike sewn a b b a e (sym e) n
      go false h = ap (λ (e : Ends). moving_edge s.positions e n) (rising_either_way s a b h)

  pub clear_turned : (i a b : ℕ) → ClearOf s i (rising s a b) → ClearOf s i (rising s b a)
  clear_turned i a b h = cut_so s i (turned_alike a b) h

-- ---- the sides of the corners in rising order

pub record EachSide (P : Ends → Type 0) (c : Corners) : Type 0 where
  pub low_middle : P (record { low = c.low; high = c.middle })
  pub low_high : P (record { low = c.low; high = c.high })
  pub middle_high : P (record { low = c.middle; high = c.high })

pub each_side : (P : Ends → Type 0) (s : Scene) (a b c : ℕ) → P (rising s a b) → P (rising s b c) → P (rising s a c) → EachSide P (among s (rising s a b) c)
each_side P s a b c ab bc ac = go (before s b a) (before s c b) (before s c a) refl refl refl
  where
    go : (x y z : Bool) → before s b a ≡ x → before s c b ≡ y → before s c a ≡ z → EachSide P (among s (rising s a b) c)
    go true true true e f g = rw (e, f) (record { low_middle = rw f at bc; low_high = rw g at ac; middle_high = rw e at ab })
    go true true false e f g = absurd (omega (arith, ltb-true (counts_as s b) (counts_as s a) e, ltb-true (counts_as s c) (counts_as s b) f, ltb-false (counts_as s c) (counts_as s a) g))
    go true false true e f g = rw (e, f, g) (record { low_middle = rw f at bc; low_high = rw e at ab; middle_high = rw g at ac })
    go true false false e f g = rw (e, f, g) (record { low_middle = rw e at ab; low_high = rw f at bc; middle_high = rw g at ac })
    go false true true e f g = rw (e, g) (record { low_middle = rw g at ac; low_high = rw f at bc; middle_high = rw e at ab })
    go false false true e f g = absurd (omega (arith, ltb-false (counts_as s b) (counts_as s a) e, ltb-false (counts_as s c) (counts_as s b) f, ltb-true (counts_as s c) (counts_as s a) g))
    go false true false e f g = rw (e, g, f) (record { low_middle = rw g at ac; low_high = rw e at ab; middle_high = rw f at bc })
    go false false false e f g = rw (e, g, f) (record { low_middle = rw e at ab; low_high = rw g at ac; middle_high = rw f at bc })
