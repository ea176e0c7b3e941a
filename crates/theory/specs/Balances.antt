-- Weights that balance may be multiplied by a number, and added.
use Rattle.std.specs.Prelude.{◌≡◌, List, ℕ, ℤ, ◌+ℤ◌, ◌*ℤ◌}
use Rattle.std.proofs.Common.{sym, ◌∙◌, ap}
use Rattle.meaning.specs.Pieces.{Event}
use Rattle.meaning.specs.Equations.{one, x_of, y_of, z_of, time_of, total, Balanced}
use Rattle.theory.specs.Totals.{weights_plus, weights_times}

module _ {a b : List Event} {u v : ℕ → ℤ} (h : Balanced a b u v) where
  pub balanced_times : (k : ℤ) → Balanced a b (λ i. k *ℤ u i) (λ i. k *ℤ v i)
  balanced_times k = record {
    sums = same one h.sums;
    xs = same x_of h.xs;
    ys = same y_of h.ys;
    zs = same z_of h.zs;
    times = same time_of h.times;
  }
    where
      same : (f : Event → ℤ) → total f u a ≡ total f v b → total f (λ i. k *ℤ u i) a ≡ total f (λ i. k *ℤ v i) b
      same f e = weights_times k f u a ∙ ap (λ z. k *ℤ z) e ∙ sym (weights_times k f v b)

  pub balanced_plus : {u' v' : ℕ → ℤ} → Balanced a b u' v' → Balanced a b (λ i. u i +ℤ u' i) (λ i. v i +ℤ v' i)
  balanced_plus {u'} {v'} k = record {
    sums = same one h.sums k.sums;
    xs = same x_of h.xs k.xs;
    ys = same y_of h.ys k.ys;
    zs = same z_of h.zs k.zs;
    times = same time_of h.times k.times;
  }
    where
      same : (f : Event → ℤ) → total f u a ≡ total f v b → total f u' a ≡ total f v' b → total f (λ i. u i +ℤ u' i) a ≡ total f (λ i. v i +ℤ v' i) b
      same f e e' =
          weights_plus f u u' a ∙ ap (λ z. z +ℤ total f u' a) e ∙ ap (λ z. total f v b +ℤ z) e' ∙ sym (weights_plus f v v' b)
