-- Of `Spread`: what rests on its definitions.
use Rattle.std.specs.Prelude.{◌≡◌, [], ◌∷◌, ◌++◌, ℤ, pos, negsuc, ◌+ℤ◌}
use Rattle.std.proofs.Math.Path.{refl}
use Rattle.std.proofs.Common.{◌∙◌, ap}
use Rattle.whole.specs.Vector.{Vector, origin}
use Rattle.whole.specs.Quote.{quotes, ring, combine, times}
use Rattle.whole.specs.Cramer.{Four, weigh, all}
use Rattle.meaning.specs.Pieces.{Event}
use Rattle.meaning.specs.Equations.{one, x_of, y_of, z_of, time_of, total, Balanced}
use Rattle.theory.specs.Differences.{differences, Form, alone, around, formed}
use Rattle.theory.specs.Spread.{first_numbers, second_numbers, factor, weights_of, times_of, atoms, first_total, second_total, between}

no_gap : (x d y : ℤ) → x +ℤ d ≡ y → d ≡ pos 0 → x ≡ y
no_gap x d y g h = combine (x ∷ d ∷ y ∷ []) (times (pos 1) g ∷ times (negsuc 0) h ∷ []) (search quotes depth 40 fits 9000) refl

the_gap : (x d y : ℤ) → x +ℤ d ≡ y → x ≡ y → d ≡ pos 0
the_gap x d y g h = combine (x ∷ d ∷ y ∷ []) (times (pos 1) g ∷ times (negsuc 0) h ∷ []) (search quotes depth 40 fits 9000) refl

-- what the spread weights of the two simplices sum to differs by what the four numbers make of the differences
module _ (f : Event → ℤ) (p q : Vector) (o : Four Event) (n : Four ℤ) where
  gap : (form : Form) → first_total f p q o n form +ℤ between f p q o n ≡ second_total f p q o n form
  unfolding total formed first_numbers second_numbers
  gap alone = ring (atoms f p q o n) (search quotes depth 40 fits 9000) refl
  gap around = ring (atoms f p q o n) (search quotes depth 40 fits 9000) refl

  level : (form : Form) → between f p q o n ≡ pos 0 → first_total f p q o n form ≡ second_total f p q o n form
  level form h = no_gap (first_total f p q o n form) (between f p q o n) (second_total f p q o n form) (gap form) h

  pub unlevel : (form : Form) → first_total f p q o n form ≡ second_total f p q o n form → between f p q o n ≡ pos 0
  unlevel form h = the_gap (first_total f p q o n form) (between f p q o n) (second_total f p q o n form) (gap form) h

module _ (p q : Vector) (o : Four Event) (n : Four ℤ) where
  one_level : between one p q o n ≡ pos 0
  one_level = ring (all n ++ all (times_of o)) (search quotes depth 40 fits 9000) refl

  time_level : between time_of p q o n ≡ pos 0
  time_level = ring (all n ++ all (times_of o)) (search quotes depth 40 fits 9000) refl

  pub spread : (form : Form) → weigh n (differences p q o) ≡ origin → Balanced (formed form p q o).first (formed form p q o).second (weights_of (first_numbers form o n)) (weights_of (second_numbers form n))
  spread form h = record {
    sums = level one p q o n form one_level;
    xs = level x_of p q o n form (ap (λ (v : Vector). v.x) h);
    ys = level y_of p q o n form (ap (λ (v : Vector). v.y) h);
    zs = level z_of p q o n form (ap (λ (v : Vector). v.z) h);
    times = level time_of p q o n form time_level;
  }

  second_sum : (form : Form) → second_total one p q o n form ≡ factor form n
  unfolding total formed second_numbers factor
  second_sum alone = ring (all n) (search quotes depth 40 fits 9000) refl
  second_sum around = ring (all n) (search quotes depth 40 fits 9000) refl

  pub spread_sum : (form : Form) → total one (weights_of (first_numbers form o n)) (formed form p q o).first ≡ factor form n
  spread_sum form = level one p q o n form one_level ∙ second_sum form
