-- Of a piece that is solved by its determinants, time and shares are read off them.
use Rattle.std.specs.Prelude.{ℕ, zero, suc, ◌≤◌, ◌<◌, ◌≡◌, refl, Bool, true, false, cond, ◌≢◌, List, [], ◌∷◌, ℤ, pos, nat_abs, ◌+ℤ◌, ◌*ℤ◌, length, ◌≤ℤ◌, ◌<ℤ◌}
use Rattle.std.proofs.Common.{sym, ap, ◌∙◌, subst, mul_comm, mul-le-mul_right, le_of_mul-le-mul_right, arith}
use Rattle.std.proofs.Math.IntN.{*ℤ-zero, *ℤ_comm}
use Rattle.std.specs.Int.Signed.{≤ℤ_refl}
use Rattle.whole.specs.Laws.{*ℤ_idl}
use Rattle.whole.specs.Quote.{quotes}
use Rattle.whole.specs.Order.{nn_mul, le, ord}
use Rattle.cutting.specs.Cut.{CutTo}
use Rattle.meaning.specs.Pieces.{Event}
use Rattle.meaning.specs.Equations.{one, time_of, total, Balanced, Touch}
use Rattle.meaning.specs.Contacts.{Cut, weights, only}
use Rattle.theory.specs.Solved.{Solved, weights_there, nonneg}
use Rattle.theory.specs.Bounds.{Every, above, below}
use Rattle.theory.specs.Totals.{weights_times}
use Rattle.contact_laws.specs.Cuts.{cut_by_determinants, in_sizes, positive_number, size_rises}

-- the numbers of the points that count, and 0 for the others
abbrev pub only_of : (ℕ → Bool) → (ℕ → ℤ) → ℕ → ℤ
only_of counts d i = cond (counts i) (d i) (pos 0)

-- weights that are proportional to numbers, D to W, have totals that are
proportional : (f : Event → ℤ) (D W : ℤ) (w d : ℕ → ℤ) (l : List Event) → ((i : ℕ) → i < length l → w i *ℤ D ≡ W *ℤ d i)
    → total f w l *ℤ D ≡ W *ℤ total f d l
proportional f D W w d l h =
    *ℤ_comm (total f w l) D
    ∙ sym (weights_times D f w l)
    ∙ weights_there f (λ i. D *ℤ w i) (λ i. W *ℤ d i) l (λ i k. *ℤ_comm D (w i) ∙ h i k)
    ∙ weights_times W f d l

counting : (D W e : ℤ) (x : ℕ) (b : Bool) → pos x *ℤ D ≡ W *ℤ e → pos (cond b x 0) *ℤ D ≡ W *ℤ cond b e (pos 0)
counting D W e x true h = h
counting D W e x false h = *ℤ_comm (pos 0) D ∙ *ℤ-zero D ∙ sym (*ℤ-zero W)

-- what is not negative on each point has no negative total
total_nonneg : (f : Event → ℤ) (w : ℕ → ℕ) (l : List Event) → Every (λ (e : Event). pos 0 ≤ℤ f e) l → pos 0 ≤ℤ total f (weights w) l
total_nonneg f w l h = subst (λ (z : ℤ). z ≤ℤ total f (weights w) l) nothing (above f (pos 0) w l h)
  where
    nothing : pos 0 *ℤ total (λ (e : Event). pos 1) (weights w) l ≡ pos 0
    nothing = *ℤ_comm (pos 0) (total (λ (e : Event). pos 1) (weights w) l) ∙ *ℤ-zero (total (λ (e : Event). pos 1) (weights w) l)

ones : (l : List Event) → Every (λ (e : Event). pos 0 ≤ℤ pos 1) l
ones [] = tt
ones (e ∷ l) = (nonneg 1, ones l)

module _ {a b : List Event} {D : ℤ} {du dv : ℕ → ℤ} (s : Solved a b D du dv) (d : D ≢ pos 0) (n : ℕ) (t : Touch a b) where
  -- a share of the first list's points, and of the second's
  pub first_share : (counts : ℕ → Bool) → CutTo (nat_abs (total one (only_of counts du) a)) (nat_abs D) n
      → Cut (total one (weights (only counts t.u)) a) (total one (weights t.u) a) n
  first_share counts =
      cut_by_determinants _ (total one (weights t.u) a) (total one (only_of counts du) a) D n (total_nonneg one (only counts t.u) a (ones a)) t.some d
      (proportional one D (total one (weights t.u) a) (weights (only counts t.u)) (only_of counts du) a
      (λ i k. counting D (total one (weights t.u) a) (du i) (t.u i) (counts i) (s.first _ _ t.balanced i k)))

  pub second_share : (counts : ℕ → Bool) → CutTo (nat_abs (total one (only_of counts dv) b)) (nat_abs D) n
      → Cut (total one (weights (only counts t.v)) b) (total one (weights t.v) b) n
  second_share counts c =
      subst (λ (w : ℤ). Cut (total one (weights (only counts t.v)) b) w n) t.balanced.sums
      (cut_by_determinants _ (total one (weights t.u) a) (total one (only_of counts dv) b) D n (total_nonneg one (only counts t.v) b (ones b)) t.some d
      (proportional one D (total one (weights t.u) a) (weights (only counts t.v)) (only_of counts dv) b
      (λ i k. counting D (total one (weights t.u) a) (dv i) (t.v i) (counts i) (s.second _ _ t.balanced i k))) c)

  -- the time, of points none of which is before the start
  pub time_cut : Every (λ (e : Event). pos 0 ≤ℤ time_of e) a → CutTo (nat_abs (total time_of du a)) (nat_abs D) n
      → Cut (total time_of (weights t.u) a) (total one (weights t.u) a) n
  time_cut timely =
      cut_by_determinants _ (total one (weights t.u) a) (total time_of du a) D n (total_nonneg time_of t.u a timely) t.some d
      (proportional time_of D (total one (weights t.u) a) (weights t.u) du a (λ i k. s.first _ _ t.balanced i k))

-- ---- a part is no larger than its whole

part_small : (S W P D : ℤ) → pos 0 ≤ℤ S → S ≤ℤ W → pos 0 <ℤ W → S *ℤ D ≡ W *ℤ P → nat_abs P ≤ nat_abs D
part_small S W P D s h w e =
    le_of_mul-le-mul_right {k = nat_abs W}
    (rw (in_sizes S W P D e) (rw (mul_comm (nat_abs D) (nat_abs W)) (mul-le-mul_right (nat_abs D) (size_rises S W s h))))
    (positive_number W w)

-- the weights that count are some of all
one_more : (x y s t : ℤ) → x ≤ℤ y → s ≤ℤ t → (x *ℤ pos 1 +ℤ s) ≤ℤ (y *ℤ pos 1 +ℤ t)
one_more x y s t h k = le (x ∷ y ∷ s ∷ t ∷ []) (search quotes depth 40 fits 9000) (omega (arith, ord))

counted_less : (b : Bool) (n : ℕ) → pos (cond b n 0) ≤ℤ pos n
counted_less true n = ≤ℤ_refl (pos n)
counted_less false n = nonneg n

only_less : (counts : ℕ → Bool) (w : ℕ → ℕ) (l : List Event) → total one (weights (only counts w)) l ≤ℤ total one (weights w) l
unfolding total
only_less counts w [] = ≤ℤ_refl (pos 0)
only_less counts w (e ∷ l) =
    one_more (pos (only counts w 0)) (pos (w 0)) _ _ (counted_less (counts 0) (w 0)) (only_less (λ i. counts (suc i)) (λ i. w (suc i)) l)

module _ {a b : List Event} {D : ℤ} {du dv : ℕ → ℤ} (s : Solved a b D du dv) (t : Touch a b) where
  abbrev W : ℤ
  W = total one (weights t.u) a

  pub first_small : (counts : ℕ → Bool) → nat_abs (total one (only_of counts du) a) ≤ nat_abs D
  first_small counts =
      part_small (total one (weights (only counts t.u)) a) W (total one (only_of counts du) a) D (total_nonneg one (only counts t.u) a (ones a))
      (only_less counts t.u a) t.some
      (proportional one D W (weights (only counts t.u)) (only_of counts du) a (λ i k. counting D W (du i) (t.u i) (counts i) (s.first _ _ t.balanced i k)))

  pub second_small : (counts : ℕ → Bool) → nat_abs (total one (only_of counts dv) b) ≤ nat_abs D
  second_small counts =
      part_small (total one (weights (only counts t.v)) b) W (total one (only_of counts dv) b) D (total_nonneg one (only counts t.v) b (ones b))
      (subst (λ (w : ℤ). total one (weights (only counts t.v)) b ≤ℤ w) (sym t.balanced.sums) (only_less counts t.v b)) t.some
      (proportional one D W (weights (only counts t.v)) (only_of counts dv) b (λ i k. counting D W (dv i) (t.v i) (counts i) (s.second _ _ t.balanced i k)))

  pub time_small : Every (λ (e : Event). pos 0 ≤ℤ time_of e) a → Every (λ (e : Event). time_of e ≤ℤ pos 1) a → nat_abs (total time_of du a) ≤ nat_abs D
  time_small timely ended =
      part_small (total time_of (weights t.u) a) W (total time_of du a) D (total_nonneg time_of t.u a timely)
      (subst (λ (w : ℤ). total time_of (weights t.u) a ≤ℤ w) (*ℤ_idl W) (below time_of (pos 1) t.u a ended)) t.some
      (proportional time_of D W (weights t.u) du a (λ i k. s.first _ _ t.balanced i k))
