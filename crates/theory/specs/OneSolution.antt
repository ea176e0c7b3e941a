-- 'One solution' of demand 2: exactly one rational solution of the six equations, up to equality of fractions. Where numbers solve two
-- lists with a common factor that is not 0, there is exactly one: each number over the factor.
use Rattle.std.specs.Prelude.{◌≡◌, refl, ◌≢◌, List, [], ◌∷◌, ℕ, ◌<◌, ℤ, pos, neg_ℤ, nat_abs, ◌*ℤ◌, length}
use Rattle.std.proofs.Common.{sym, ◌∙◌, ap}
use Rattle.whole.specs.Quote.{quotes, combine, times}
use Rattle.whole.specs.Signs.{sgn, alike, cancel, nat_abs_positive}
use Rattle.meaning.specs.Pieces.{Event}
use Rattle.meaning.specs.Equations.{one}
use Rattle.theory.specs.Totals.{weights_times}
use Rattle.theory.specs.Solved.{Solved, unit_of, size_is}
use Rattle.theory.specs.Fractions.{Fraction, ◌≃◌, nonzero}
use Rattle.theory.specs.Rational.{Solves, AnyCommon, any_common, fraction, fractions_common, balanced_of, sum_of, solves_of}
use Rattle.theory.specs.Balances.{balanced_times}

pub record OneSolution (a b : List Event) : Type 0 where
  pub u : ℕ → Fraction
  pub v : ℕ → Fraction
  pub solves : Solves a b u v
  pub first : (u' v' : ℕ → Fraction) → Solves a b u' v' → (i : ℕ) → i < length a → u' i ≃ u i
  pub second : (u' v' : ℕ → Fraction) → Solves a b u' v' → (i : ℕ) → i < length b → v' i ≃ v i

proportions : (s d o N' D e k N : ℤ) → N' ≢ pos 0 → s *ℤ D ≡ N' *ℤ e → s *ℤ d ≡ o *ℤ N' → k *ℤ D ≡ N → o *ℤ N ≡ k *ℤ e *ℤ d
proportions s d o N' D e k N m h g f = cancel N' (o *ℤ N) (k *ℤ e *ℤ d) m
    (combine (s ∷ d ∷ o ∷ N' ∷ D ∷ e ∷ k ∷ N ∷ []) (times (neg_ℤ N) g ∷ times (neg_ℤ (s *ℤ d)) f ∷ times (k *ℤ d) h ∷ []) (search quotes depth 40 fits 9000) refl)

module _ {a b : List Event} {D : ℤ} {du dv : ℕ → ℤ} (s : Solved a b D du dv) (n : D ≢ pos 0) where
  abbrev unit : ℤ
  unit = unit_of (sgn D)

  unit_is : unit *ℤ D ≡ pos (nat_abs D)
  unit_is = sym (size_is D D (alike refl))

  -- whole numbers s over N, proportional to the numbers e of the solution
  share : {N : ℕ} (w : Fraction) (s e : ℤ) → 0 < N → s *ℤ pos w.under ≡ w.over *ℤ pos N → s *ℤ D ≡ pos N *ℤ e → w ≃ fraction (nat_abs D) (nat_abs_positive D n) (unit *ℤ e)
  share {N} w s e m g h = record { crosswise = proportions s (pos w.under) w.over (pos N) D e unit (pos (nat_abs D)) (nonzero m) h g unit_is }

  pub one_solution : OneSolution a b
  one_solution = record {
    u = λ i. fraction (nat_abs D) (nat_abs_positive D n) (unit *ℤ du i);
    v = λ i. fraction (nat_abs D) (nat_abs_positive D n) (unit *ℤ dv i);
    solves =
        solves_of (fractions_common (nat_abs_positive D n)) (balanced_times s.balanced unit)
        (weights_times unit one du a ∙ ap (λ z. unit *ℤ z) s.sum ∙ unit_is);
    first = λ u' v' h i k. first_share (any_common a b u' v') h i k;
    second = λ u' v' h i k. second_share (any_common a b u' v') h i k;
  }
    where
      first_share : {u' v' : ℕ → Fraction} (c : AnyCommon a b u' v') → Solves a b u' v' → (i : ℕ) → i < length a → u' i ≃ fraction (nat_abs D) (nat_abs_positive D n) (unit *ℤ du i)
      first_share {u'} c h i k = share (u' i) (c.s i) (du i) c.common.positive (c.common.first.each i k)
          (s.first c.s c.t (balanced_of c.common h) i k ∙ ap (λ z. z *ℤ du i) (sum_of c.common h))

      second_share : {u' v' : ℕ → Fraction} (c : AnyCommon a b u' v') → Solves a b u' v' → (i : ℕ) → i < length b → v' i ≃ fraction (nat_abs D) (nat_abs_positive D n) (unit *ℤ dv i)
      second_share {v' = v'} c h i k = share (v' i) (c.t i) (dv i) c.common.positive (c.common.second.each i k)
          (s.second c.s c.t (balanced_of c.common h) i k ∙ ap (λ z. z *ℤ dv i) (sum_of c.common h))
