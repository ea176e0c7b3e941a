-- What a sum of a piece's numbers tells: if the piece is hit, the sum is a part of the whole that is not 0, and the number that it is cut to is
-- the time, or a share.
use Rattle.std.specs.Prelude.{ℕ, suc, ◌≤◌, ◌≡◌, refl, Bool, ◌≢◌, List, [], ◌∷◌, ℤ, pos, nat_abs, ◌-ℤ◌, ◌≤ℤ◌}
use Rattle.std.proofs.Common.{subst, arith}
use Rattle.std.specs.Int.Signed.{le_z_yes}
use Rattle.whole.specs.Vector.{Vector}
use Rattle.whole.specs.Quote.{quotes}
use Rattle.whole.specs.Order.{le, of_le}
use Rattle.whole.specs.Cramer.{Four, volumes}
use Rattle.cutting.specs.Cut.{CutTo}
use Rattle.meaning.specs.Pieces.{Event, Piece}
use Rattle.meaning.specs.Equations.{one, time_of, total, Touches}
use Rattle.meaning.specs.Verdicts.{PieceIs}
use Rattle.meaning.specs.Contacts.{TimeIs, FirstShareIs, SecondShareIs}
use Rattle.meaning.specs.declared.Verdict.TheVariants.{Hit}
use Rattle.theory.specs.Differences.{differences, Form, alone, around, formed}
use Rattle.theory.specs.Spread.{first_numbers, second_numbers, factor, weights_of}
use Rattle.theory.proofs.Shapes.{solved}
use Rattle.theory.specs.Bridge.{singular_is}
use Rattle.theory.specs.Bounds.{Every}
use Rattle.theory.specs.Judged.{Timely}
use Rattle.contact_laws.specs.Solving.{only_of, first_share, second_share, time_cut, first_small, second_small, time_small}

pub record Told (p : Piece) (whole part : ℤ) (Means : ℕ → Type 0) : Type 0 where
  pub some : PieceIs p Hit → whole ≢ pos 0
  pub fits : PieceIs p Hit → nat_abs part ≤ nat_abs whole
  pub means : PieceIs p Hit → (n : ℕ) → CutTo (nat_abs part) (nat_abs whole) n → Means n

-- the same of numbers that are equal
pub told_same : {p : Piece} {whole whole' part part' : ℤ} {Means : ℕ → Type 0} → whole ≡ whole' → part ≡ part' → Told p whole part Means
    → Told p whole' part' Means
told_same {p} {whole} {whole'} {part} {part'} {Means} e f t =
    subst (λ (w : ℤ). Told p w part' Means) e (subst (λ (x : ℤ). Told p whole x Means) f t)

at_most_one : (t : ℤ) → pos 0 ≤ℤ (pos 1 -ℤ t) → t ≤ℤ pos 1
at_most_one t h = le (t ∷ []) (search quotes depth 40 fits 9000) (omega (arith, of_le (t ∷ []) (search quotes depth 40 fits 9000) h))

module _ (form : Form) (p q : Vector) (o : Four Event) where
  abbrev E : Four ℤ
  E = volumes (differences p q o)

  abbrev piece : Piece
  piece = formed form p q o

  touches : PieceIs piece Hit → Touches piece
  unfolding PieceIs
  touches h = h.1

  not_flat : PieceIs piece Hit → factor form E ≢ pos 0
  unfolding PieceIs
  not_flat h e = h.0 ((singular_is form p q o).1 e)

  pub told_first : (counts : ℕ → Bool) → Told piece (factor form E) (total one (only_of counts (weights_of (first_numbers form o E))) piece.first) (FirstShareIs piece counts)
  told_first counts = record {
    some = not_flat;
    fits = λ h. first_small (solved form p q o) (touches h) counts;
    means = λ h n c t. first_share (solved form p q o) (not_flat h) n t counts c;
  }

  pub told_second : (counts : ℕ → Bool) → Told piece (factor form E) (total one (only_of counts (weights_of (second_numbers form E))) piece.second) (SecondShareIs piece counts)
  told_second counts = record {
    some = not_flat;
    fits = λ h. second_small (solved form p q o) (touches h) counts;
    means = λ h n c t. second_share (solved form p q o) (not_flat h) n t counts c;
  }

  module _ (timely : Timely o) where
    from_start_lem : (f : Form) → Every (λ (e : Event). pos 0 ≤ℤ time_of e) (formed f p q o).first
    unfolding formed
    from_start_lem alone = (le_z_yes tt, (le_z_yes tt, tt))
    from_start_lem around = (le_z_yes tt, (timely.from_start.k0, (le_z_yes tt, tt)))

    to_end_lem : (f : Form) → Every (λ (e : Event). time_of e ≤ℤ pos 1) (formed f p q o).first
    unfolding formed
    to_end_lem alone = (le_z_yes tt, (le_z_yes tt, tt))
    to_end_lem around = (le_z_yes tt, (at_most_one o.v0.time timely.to_end.k0, (le_z_yes tt, tt)))

    pub told_time : Told piece (factor form E) (total time_of (weights_of (first_numbers form o E)) piece.first) (TimeIs piece)
    told_time = record {
      some = not_flat;
      fits = λ h. time_small (solved form p q o) (touches h) (from_start_lem form) (to_end_lem form);
      means = λ h n c t. time_cut (solved form p q o) (not_flat h) n t (from_start_lem form) c;
    }
