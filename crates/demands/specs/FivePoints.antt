-- 'By Cramer's rule each weight is, up to one common factor, a signed determinant of the other five points with rows x, y, z, at-start,
-- at-end': the numbers that solve a piece are these determinants, with signs that depend on the place alone, in both forms that a piece
-- can have.
use Rattle.std.specs.Prelude.{ℕ, ◌≡◌, ℤ}
use mathlib.Core.List.{List, [], ◌∷◌, ◌++◌, map}
use Rattle.std.proofs.Math.Path.{refl, sym}
use Rattle.std.proofs.Common.{◌∙◌, ap}
use Rattle.std.proofs.Math.IntN.{neg_ℤ, neg_ℤ-neg_ℤ}
use Rattle.whole.specs.Vector.{Vector, volume}
use Rattle.whole.specs.Ring.{neg}
use Rattle.whole.specs.Operations.{expand_in, determinant_in}
use Rattle.whole.specs.Cramer.{Four, volumes, all}
use Rattle.meaning.specs.Pieces.{Event, Piece}
use Rattle.theory.specs.Differences.{difference, differences, at_start, at_end, Form, alone, around, formed}
use Rattle.theory.specs.NoCrack.{without}
use Rattle.theory.specs.Spread.{start_share, end_share, first_numbers, second_numbers, factor, weights_of}
use Rattle.theory.specs.Solved.{Solved}
use Rattle.theory.proofs.Shapes.{solved}
use Rattle.demands.specs.Columns.{column_of, five, five_worth, startˣ, endˣ, o0, o1, o2, o3, letters, volumeˣ, shareˣ}

-- the determinant of the points of a piece without the i-th of the six
abbrev pub other_five : Piece → ℕ → ℤ
other_five p i = five (map column_of (without i (p.first ++ p.second)))

-- ---- the signs

-- d i is the determinant without the i-th point. From point to point of the six the sign turns, and it turns once more between the simplices,
-- since the weights of the second stand on the other side of the equations: - + | + - + - and + - + | + - +
unfoldable pub first_signed : Form → (ℕ → ℤ) → List ℤ
first_signed alone d = neg_ℤ (d 0) ∷ d 1 ∷ []
first_signed around d = d 0 ∷ neg_ℤ (d 1) ∷ d 2 ∷ []

unfoldable pub second_signed : Form → (ℕ → ℤ) → List ℤ
second_signed alone d = d 2 ∷ neg_ℤ (d 3) ∷ d 4 ∷ neg_ℤ (d 5) ∷ []
second_signed around d = d 3 ∷ neg_ℤ (d 4) ∷ d 5 ∷ []

-- ---- each point left out in turn

-- 'Up to sign that is the 3 by 3 determinant of differences, start points to the first start point and end points to the first end point'
pub five_is_volume : (p q : Vector) (c d e : Event)
    → five (map column_of (at_start p ∷ at_end q ∷ c ∷ d ∷ e ∷ [])) ≡ volume (difference p q c) (difference p q d) (difference p q e)
unfolding volume determinant_in expand_in
five_is_volume p q c d e =
    five_worth (letters p q (record { v0 = c; v1 = c; v2 = d; v3 = e })) (startˣ ∷ endˣ ∷ o1 ∷ o2 ∷ o3 ∷ []) (volumeˣ o1 o2 o3) refl

-- with a point between the two of the base
five_is_volume_around : (p q : Vector) (c d e : Event)
    → five (map column_of (at_start p ∷ c ∷ at_end q ∷ d ∷ e ∷ [])) ≡ neg_ℤ (volume (difference p q c) (difference p q d) (difference p q e))
unfolding volume determinant_in expand_in
five_is_volume_around p q c d e =
    five_worth (letters p q (record { v0 = c; v1 = c; v2 = d; v3 = e })) (startˣ ∷ o1 ∷ endˣ ∷ o2 ∷ o3 ∷ []) (neg (volumeˣ o1 o2 o3)) refl

module _ (p q : Vector) (o : Four Event) where
  abbrev E : Four ℤ
  E = volumes (differences p q o)

  without_start : five (map column_of (at_end q ∷ all o)) ≡ neg_ℤ (start_share o E)
  unfolding volume determinant_in expand_in
  without_start = five_worth (letters p q o) (endˣ ∷ o0 ∷ o1 ∷ o2 ∷ o3 ∷ []) (neg (shareˣ (λ c. c.start))) refl

  without_end : five (map column_of (at_start p ∷ all o)) ≡ end_share o E
  unfolding volume determinant_in expand_in
  without_end = five_worth (letters p q o) (startˣ ∷ o0 ∷ o1 ∷ o2 ∷ o3 ∷ []) (shareˣ (λ c. c.end)) refl

  without_start_around : five (map column_of (o.v0 ∷ at_end q ∷ o.v1 ∷ o.v2 ∷ o.v3 ∷ [])) ≡ start_share o E
  unfolding volume determinant_in expand_in
  without_start_around = five_worth (letters p q o) (o0 ∷ endˣ ∷ o1 ∷ o2 ∷ o3 ∷ []) (shareˣ (λ c. c.start)) refl

  -- ---- the theorem

  -- if the determinant is the opposite of a number, the number is the opposite of the determinant
  turned : {d : ℤ} (n : ℤ) → d ≡ neg_ℤ n → n ≡ neg_ℤ d
  turned n e = sym (neg_ℤ-neg_ℤ n) ∙ ap neg_ℤ (sym e)

  abbrev others : Form → ℕ → ℤ
  others form = other_five (formed form p q o)

  abbrev spanned : Event → Event → Event → ℤ
  spanned c d e = volume (difference p q c) (difference p q d) (difference p q e)

  abbrev with_base : Event → Event → Event → ℤ
  with_base c d e = five (map column_of (at_start p ∷ at_end q ∷ c ∷ d ∷ e ∷ []))

  spans : (c d e : Event) → spanned c d e ≡ with_base c d e
  spans c d e = sym (five_is_volume p q c d e)

  -- the numbers of the first simplex
  first_five : (form : Form) → first_numbers form o E ≡ first_signed form (others form)
  unfolding formed without first_numbers first_signed
  first_five alone = λ i. turned (start_share o E) without_start i ∷ sym without_end i ∷ []
  first_five around = λ i. sym without_start_around i ∷ neg_ℤ (spans o.v1 o.v2 o.v3 i) ∷ sym without_end i ∷ []

  -- and of the second
  second_five : (form : Form) → second_numbers form E ≡ second_signed form (others form)
  unfolding formed without second_numbers second_signed
  second_five alone = λ i.
      spans o.v1 o.v2 o.v3 i ∷ neg_ℤ (spans o.v0 o.v2 o.v3 i) ∷ spans o.v0 o.v1 o.v3 i
      ∷ neg_ℤ (spans o.v0 o.v1 o.v2 i) ∷ []
  second_five around = λ i.
      sym (five_is_volume_around p q o.v0 o.v2 o.v3) i
      ∷ turned (spanned o.v0 o.v1 o.v3) (five_is_volume_around p q o.v0 o.v1 o.v3) i
      ∷ sym (five_is_volume_around p q o.v0 o.v1 o.v2) i ∷ []

  -- each of the six numbers is the determinant of the other five points, with the sign of its place
  pub other_five_lem : (form : Form)
      → (first_numbers form o E ≡ first_signed form (other_five (formed form p q o))) × (second_numbers form E ≡ second_signed form (other_five (formed form p q o)))
  other_five_lem form = (first_five form, second_five form)

  -- so all weights that balance are proportional to these signed determinants; the common factor is their sum over one simplex
  pub weights_are_fives : (form : Form)
      → Solved (formed form p q o).first (formed form p q o).second (factor form E) (weights_of (first_signed form (other_five (formed form p q o)))) (weights_of (second_signed form (other_five (formed form p q o))))
  weights_are_fives form = rw (← first_five form, ← second_five form) (solved form p q o)
