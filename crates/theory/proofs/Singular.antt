-- Of `Singular`: what rests on its definitions.
use Rattle.std.specs.Prelude.{◌≡◌, refl, ◌≢◌, ◌↔◌, List, [], ◌∷◌, ℕ, ◌<◌, ℤ, pos, negsuc, neg_ℤ, ◌+ℤ◌, ◌-ℤ◌, ◌*ℤ◌, length}
use Rattle.std.proofs.Common.{sym, ◌∙◌, ap, arith}
use Rattle.std.proofs.Math.IntN.{+ℤ_idr, +ℤ_invr}
use Rattle.whole.specs.Vector.{Vector, origin, volume}
use Rattle.whole.specs.VectorLaws.{vector_eq, coordinates}
use Rattle.whole.specs.Quote.{quotes, ring, combine, times}
use Rattle.whole.specs.Signs.{factor_zero}
use Rattle.whole.specs.Cramer.{Four, all, weigh, volumes}
use Rattle.meaning.specs.Pieces.{Event}
use Rattle.meaning.specs.Equations.{one, total, Balanced, determinant_of}
use Rattle.theory.specs.Totals.{weights_plus}
use Rattle.theory.specs.Differences.{Form, alone, around, formed}
use Rattle.theory.specs.Spread.{first_numbers, second_numbers, factor}
use Rattle.theory.proofs.Spread.{spread, spread_sum}
use Rattle.theory.proofs.Shapes.{solved}
use Rattle.theory.specs.Bridge.{singular_is}
use Rattle.theory.specs.Fractions.{nonzero}
use Rattle.theory.specs.Rational.{Solves, AnyCommon, any_common, fraction, fractions_common, balanced_of, sum_of, solves_of}
use Rattle.theory.specs.Balances.{balanced_plus}
use Rattle.theory.specs.Independence.{unminus, Relation, Independent, independent_volume}
use Rattle.theory.specs.OneSolution.{OneSolution, one_solution}
use Rattle.theory.specs.Singular.{lead, less, There, d}

unshifted : (s x d o N : ℤ) → d ≢ pos 0 → (s +ℤ x) *ℤ d ≡ o *ℤ N → s *ℤ d ≡ o *ℤ N → x ≡ pos 0
unshifted s x d o N m h g = factor_zero d x
    (combine (s ∷ x ∷ d ∷ o ∷ N ∷ []) (times (pos 1) h ∷ times (negsuc 0) g ∷ []) (search quotes depth 40 fits 9000) refl) m

module _ {a b : List Event} (O : OneSolution a b) {x y : ℕ → ℤ} (h : Balanced a b x y) (e : total one x a ≡ pos 0) where
  base : AnyCommon a b O.u O.v
  base = any_common a b O.u O.v

  shifted : Solves a b (λ i. fraction base.N base.common.positive (base.s i +ℤ x i)) (λ i. fraction base.N base.common.positive (base.t i +ℤ y i))
  shifted = solves_of (fractions_common base.common.positive) (balanced_plus (balanced_of base.common O.solves) h)
      (weights_plus one base.s x a ∙ ap (λ z. z +ℤ total one x a) (sum_of base.common O.solves) ∙ ap (λ z. pos base.N +ℤ z) e ∙ +ℤ_idr (pos base.N))

  first_none : (i : ℕ) → i < length a → x i ≡ pos 0
  first_none i k = unshifted (base.s i) (x i) (pos (O.u i).under) (O.u i).over (pos base.N) (nonzero (O.u i).positive)
      (O.first _ _ shifted i k).crosswise (base.common.first.each i k)

  second_none : (i : ℕ) → i < length b → y i ≡ pos 0
  second_none i k = unshifted (base.t i) (y i) (pos (O.v i).under) (O.v i).over (pos base.N) (nonzero (O.v i).positive)
      (O.second _ _ shifted i k).crosswise (base.common.second.each i k)

factor_lead : (form : Form) (n : Four ℤ) → factor form n ≡ lead form *ℤ n.v0 +ℤ n.v1 +ℤ n.v2 +ℤ n.v3
unfolding factor lead
factor_lead alone n = ring (all n) (search quotes depth 40 fits 9000) refl
factor_lead around n = ring (all n) (search quotes depth 40 fits 9000) refl

volume_less : (k : ℤ) (d : Four Vector) → volume (less k d.v0 d.v3) (less (pos 1) d.v1 d.v3) (less (pos 1) d.v2 d.v3) ≡ neg_ℤ (k *ℤ (volumes d).v0 +ℤ (volumes d).v1 +ℤ (volumes d).v2 +ℤ (volumes d).v3)
unfolding volume
volume_less k d = ring (k ∷ coordinates (all d)) (search quotes depth 40 fits 90000) refl

-- a relation of the three is one of the four whose factor is 0
closed : ℤ → ℤ → ℤ → ℤ → Four ℤ
closed k l m n = record { v0 = l; v1 = m; v2 = n; v3 = neg_ℤ (k *ℤ l +ℤ m +ℤ n) }

closed_combines : (k : ℤ) (d : Four Vector) {l m n : ℤ} → Relation l m n (less k d.v0 d.v3) (less (pos 1) d.v1 d.v3) (less (pos 1) d.v2 d.v3) → weigh (closed k l m n) d ≡ origin
unfolding closed
closed_combines k d {l} {m} {n} r = vector_eq (at d.v0.x d.v1.x d.v2.x d.v3.x (ap (λ (u : Vector). u.x) r.sums))
    (at d.v0.y d.v1.y d.v2.y d.v3.y (ap (λ (u : Vector). u.y) r.sums))
    (at d.v0.z d.v1.z d.v2.z d.v3.z (ap (λ (u : Vector). u.z) r.sums))
  where
    at : (a b c w : ℤ) → l *ℤ (a -ℤ k *ℤ w) +ℤ m *ℤ (b -ℤ pos 1 *ℤ w) +ℤ n *ℤ (c -ℤ pos 1 *ℤ w) ≡ pos 0 → l *ℤ a +ℤ m *ℤ b +ℤ n *ℤ c +ℤ neg_ℤ (k *ℤ l +ℤ m +ℤ n) *ℤ w ≡ pos 0
    at a b c w h = combine (k ∷ l ∷ m ∷ n ∷ a ∷ b ∷ c ∷ w ∷ []) (times (pos 1) h ∷ []) (search quotes depth 40 fits 9000) refl

closed_factor : (form : Form) (l m n : ℤ) → factor form (closed (lead form) l m n) ≡ pos 0
unfolding closed
closed_factor form l m n = factor_lead form _ ∙ +ℤ_invr (lead form *ℤ l +ℤ m +ℤ n)

-- then the first three of the four numbers that spread to these weights are 0
numbers_none : (form : Form) (p q : Vector) (o : Four Event) (n : Four ℤ) → There (formed form p q o).first (first_numbers form o n) → There (formed form p q o).second (second_numbers form n) → (n.v0 ≡ pos 0) × (n.v1 ≡ pos 0) × (n.v2 ≡ pos 0)
unfolding formed first_numbers second_numbers
numbers_none alone p q o n f s = (s 0 (omega arith), s 1 (omega arith), s 2 (omega arith))
numbers_none around p q o n f s = (unminus (f 1 (omega arith)), s 0 (omega arith), s 1 (omega arith))

module _ (form : Form) (p q : Vector) (o : Four Event) (O : OneSolution (formed form p q o).first (formed form p q o).second) where
  all_none : (n : Four ℤ) → weigh n (d form p q o O) ≡ origin → factor form n ≡ pos 0 → (n.v0 ≡ pos 0) × (n.v1 ≡ pos 0) × (n.v2 ≡ pos 0)
  all_none n c e = numbers_none form p q o n (first_none O (spread p q o n form c) (spread_sum p q o n form ∙ e))
      (second_none O (spread p q o n form c) (spread_sum p q o n form ∙ e))

  independent : Independent (less (lead form) (d form p q o O).v0 (d form p q o O).v3) (less (pos 1) (d form p q o O).v1 (d form p q o O).v3) (less (pos 1) (d form p q o O).v2 (d form p q o O).v3)
  unfolding closed
  independent = record {
    first = λ {l} {m} {n} r. (all_none (closed (lead form) l m n) (closed_combines (lead form) (d form p q o O) r) (closed_factor form l m n)).0;
    second = λ {l} {m} {n} r. (all_none (closed (lead form) l m n) (closed_combines (lead form) (d form p q o O) r) (closed_factor form l m n)).1;
    third = λ {l} {m} {n} r. (all_none (closed (lead form) l m n) (closed_combines (lead form) (d form p q o O) r) (closed_factor form l m n)).2;
  }

  factor_some : factor form (volumes (d form p q o O)) ≢ pos 0
  factor_some e = independent_volume _ _ _ independent (volume_less (lead form) (d form p q o O) ∙ ap neg_ℤ (sym (factor_lead form (volumes (d form p q o O))) ∙ e))

pub one_solution_is : (form : Form) (p q : Vector) (o : Four Event) → (determinant_of (formed form p q o) ≢ pos 0) ↔ OneSolution (formed form p q o).first (formed form p q o).second
one_solution_is form p q o = (
  λ n. one_solution (solved form p q o) (λ e. n ((singular_is form p q o).1 e)),
  λ O e. factor_some form p q o O ((singular_is form p q o).0 e),
)
