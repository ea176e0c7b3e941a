-- The order of the points within a simplex, and which simplex comes first, is nothing to a piece: weights stay weights, the determinant
-- changes its sign at most, and the verdict stays.
use Rattle.std.specs.Prelude.{◌≡◌, refl, ◌↔◌, List, [], ◌∷◌, ◌++◌, map, ℕ, zero, suc, ◌+◌, ◌/◌, ◌%◌, min, max, ℤ, pos, negsuc, neg_ℤ, nat_abs, length}
use Rattle.std.proofs.Common.{sym, ◌∙◌, ap, ap₂, add_comm, arith, length-append}
use Rattle.std.proofs.Math.Path.{fun_ext}
use Rattle.std.proofs.Math.IntN.{neg_ℤ-neg_ℤ}
use Rattle.std.proofs.lemmas.List.{length-map}
use Rattle.whole.specs.Signs.{nat_abs_neg}
use Rattle.meaning.specs.Scene.{Scene, ends_of, corners_of}
use Rattle.meaning.specs.Pieces.{Event, Piece, moving_edge, moving_triangle, piece_of}
use Rattle.meaning.specs.declared.Ends.{Ends}
use Rattle.meaning.specs.declared.Corners.{Corners}
use Rattle.meaning.specs.declared.Kind.{Kind}
use Rattle.meaning.specs.declared.Kind.TheVariants.{PointTriangle, EdgeEdge}
use Rattle.meaning.specs.Equations.{one, x_of, y_of, z_of, time_of, Touch, Unknown, of_first, of_second, in_first, in_second, agrees, equations, determinant, determinant_of}
use Rattle.theory.specs.Alike.{Alike}
use Rattle.theory.specs.Determinants.{Exchanged, Opposite, rows_exchanged, rows_negated, rows_below, through, columns_mapped}
use Rattle.theory.specs.Rearranged.{rearranged_back, Rearranged, unmoved, moved, also, rearranged_before, rearranged_after, rearranged_map, change_places, carried, carried_total, determinant_rearranged}

-- ---- weights of two simplices

pub touch_turned : {a b : List Event} → Touch a b → Touch b a
touch_turned t = record {
  u = t.v;
  v = t.u;
  balanced = record {
    sums = sym t.balanced.sums;
    xs = sym t.balanced.xs;
    ys = sym t.balanced.ys;
    zs = sym t.balanced.zs;
    times = sym t.balanced.times;
  };
  some = rw t.balanced.sums at t.some;
}

pub touch_first : {a a' b : List Event} → Rearranged a a' → Touch a b → Touch a' b
touch_first unmoved t = t
touch_first {b = b} (moved e r) t = touch_first r (exchanged e t)
  where
    exchanged : {a a' : List Event} → Exchanged a a' → Touch a b → Touch a' b
    exchanged e t =
        record {
          u = carried e t.u;
          v = t.v;
          balanced = record {
            sums = sym (carried_total one e t.u) ∙ t.balanced.sums;
            xs = sym (carried_total x_of e t.u) ∙ t.balanced.xs;
            ys = sym (carried_total y_of e t.u) ∙ t.balanced.ys;
            zs = sym (carried_total z_of e t.u) ∙ t.balanced.zs;
            times = sym (carried_total time_of e t.u) ∙ t.balanced.times;
          };
          some = rw (carried_total one e t.u) at t.some;
        }

pub touch_rearranged : {a a' b b' : List Event} → Rearranged a a' → Rearranged b b' → Touch a b → Touch a' b'
touch_rearranged r s t = touch_turned (touch_first s (touch_turned (touch_first r t)))

-- ---- the determinant of a piece

abbrev pub columns_of : Piece → List Unknown
columns_of p = map of_first p.first ++ map of_second p.second

abbrev pub points_of : Piece → ℕ
points_of p = length p.first + length p.second

pub columns_of_points : (p : Piece) → length (columns_of p) ≡ points_of p
columns_of_points p = simp (length-append, length-map)

-- the same points in the same simplices
pub record SamePoints (p q : Piece) : Type 0 where
  pub first : Rearranged p.first q.first
  pub second : Rearranged p.second q.second

pub determinant_same_points : (p q : Piece) → SamePoints p q → points_of p ≡ 6 → nat_abs (determinant_of p) ≡ nat_abs (determinant_of q)
unfolding determinant_of
determinant_same_points p q r h =
    determinant_rearranged equations (also (rearranged_before (map of_second p.second) (rearranged_map of_first r.first))
    (rearranged_after (map of_first q.first) (rearranged_map of_second r.second)))
    (columns_of_points p ∙ h)

-- ---- the simplices in the other order

abbrev pub turned : Piece → Piece
turned p = record { first = p.second; second = p.first }

pub other : Unknown → Unknown
other (of_first e) = of_second e
other (of_second e) = of_first e

pub other_columns : (a b : List Event) → map other (map of_first a ++ map of_second b) ≡ map of_second a ++ map of_first b
unfolding other
other_columns [] [] = refl
other_columns [] (e ∷ b) = ap (λ (l : List Unknown). of_first e ∷ l) (other_columns [] b)
other_columns (e ∷ a) b = ap (λ (l : List Unknown). of_second e ∷ l) (other_columns a b)

pub first_of_other : (c : Unknown) → in_first (other c) ≡ in_second c
unfolding other in_first in_second
first_of_other (of_first e) = refl
first_of_other (of_second e) = refl

pub second_of_other : (c : Unknown) → in_second (other c) ≡ in_first c
unfolding other in_first in_second
second_of_other (of_first e) = refl
second_of_other (of_second e) = refl

pub agrees_of_other : (f : Event → ℤ) (c : Unknown) → agrees f (other c) ≡ neg_ℤ (agrees f c)
unfolding other agrees
agrees_of_other f (of_first e) = refl
agrees_of_other f (of_second e) = sym (neg_ℤ-neg_ℤ (f e))

pub equations_of_other : (q : List Unknown) → Opposite (determinant equations (map other q)) (determinant equations q)
equations_of_other q = record {
  is =
      columns_mapped other equations q ∙ ap (λ (rows : List (Unknown → ℤ)). determinant rows q) rows_are
      ∙ rows_below in_second in_first turned_rows agree_rows four q ∙ (rows_exchanged in_second in_first agree_rows q).is;
}
  where
    minus : (Event → ℤ) → Unknown → ℤ
    minus f c = neg_ℤ (agrees f c)

    agree_rows : List (Unknown → ℤ)
    agree_rows = agrees x_of ∷ agrees y_of ∷ agrees z_of ∷ agrees time_of ∷ []

    turned_rows : List (Unknown → ℤ)
    turned_rows = minus x_of ∷ minus y_of ∷ minus z_of ∷ minus time_of ∷ []

    agreed : (f : Event → ℤ) → (λ (c : Unknown). agrees f (other c)) ≡ minus f
    agreed f = fun_ext (agrees_of_other f)

    rows_are : map (through other) equations ≡ in_second ∷ in_first ∷ turned_rows
    rows_are = λ i. fun_ext first_of_other i ∷ fun_ext second_of_other i ∷ agreed x_of i ∷ agreed y_of i ∷ agreed z_of i ∷ agreed time_of i ∷ []

    four : (q : List Unknown) → determinant turned_rows q ≡ determinant agree_rows q
    four q =
        rows_negated (agrees x_of) (agrees y_of) (minus z_of ∷ minus time_of ∷ []) q
        ∙ rows_below (agrees x_of) (agrees y_of) (minus z_of ∷ minus time_of ∷ []) (agrees z_of ∷ agrees time_of ∷ []) (rows_negated (agrees z_of) (agrees time_of) []) q

pub determinant_turned : (p : Piece) → points_of p ≡ 6 → nat_abs (determinant_of (turned p)) ≡ nat_abs (determinant_of p)
unfolding determinant_of
determinant_turned p h =
    determinant_rearranged equations (change_places (map of_first p.second) (map of_second p.first))
    (columns_of_points (turned p) ∙ add_comm (length p.second) (length p.first) ∙ h)
    ∙ ap (λ (l : List Unknown). nat_abs (determinant equations l)) (sym (other_columns p.first p.second))
    ∙ ap nat_abs (equations_of_other (columns_of p)).is ∙ nat_abs_neg (determinant equations (columns_of p))

-- ---- the verdict

pub vanish_together : (a b : ℤ) → nat_abs a ≡ nat_abs b → (a ≡ pos 0) ↔ (b ≡ pos 0)
vanish_together a b h = (λ e. none b (sym h ∙ ap nat_abs e), λ e. none a (h ∙ ap nat_abs e))
  where
    none : (z : ℤ) → nat_abs z ≡ 0 → z ≡ pos 0
    none (pos n) e = ap pos e
    none (negsuc n) e = absurd (omega arith)

pub same_points_alike : (p q : Piece) → SamePoints p q → points_of p ≡ 6 → Alike p q
same_points_alike p q r h = record {
  vanishes = vanish_together _ _ (determinant_same_points p q r h);
  touches = (touch_rearranged r.first r.second, touch_rearranged (rearranged_back r.first) (rearranged_back r.second));
}

pub turned_alike : (p : Piece) → points_of p ≡ 6 → Alike (turned p) p
turned_alike p h = record { vanishes = vanish_together _ _ (determinant_turned p h); touches = (touch_turned, touch_turned) }

-- every piece of a pair has six points
pub six_points : (s : Scene) (kind : Kind) (i j k : ℕ) → points_of (piece_of s kind i j k) ≡ 6
unfolding piece_of moving_edge moving_triangle
six_points s PointTriangle i j k = ap (λ n. 2 + n) (four (corners_of s j) k)
  where
    four : (c : Corners) (k : ℕ) → length (moving_triangle s.positions c k) ≡ 4
    four c zero = refl
    four c (suc zero) = refl
    four c (suc (suc k)) = refl
six_points s EdgeEdge i j k = ap₂ ◌+◌ (three (ends_of s (min i j)) (k / 2)) (three (ends_of s (max i j)) (k % 2))
  where
    three : (e : Ends) (k : ℕ) → length (moving_edge s.positions e k) ≡ 3
    three e zero = refl
    three e (suc k) = refl
