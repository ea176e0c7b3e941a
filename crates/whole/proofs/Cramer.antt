-- Of `Cramer`: what rests on its definitions.
use Rattle.std.specs.Prelude.{◌≡◌, refl, [], ◌∷◌, ◌++◌, ℕ, ◌+◌, ℤ, pos, neg_ℤ, ◌+ℤ◌, ◌-ℤ◌, ◌*ℤ◌}
use Rattle.std.proofs.Common.{◌∙◌, ap}
use Rattle.whole.specs.Ring.{Expr, var, solve}
use Rattle.whole.specs.Quote.{combine, times, quotes}
use Rattle.whole.specs.Operations.{wholes, exprs}
use Rattle.whole.specs.Vector.{Vector, origin, volume}
use Rattle.whole.specs.Cramer.{Four, each, weigh, volumes, all, mix_in, one_side, other_side, dot4, Place, pick, at_place, reads}

five_rows : (n w k x y z : Four ℤ) → one_side wholes n w k x y z ≡ other_side wholes n w k x y z
five_rows n w k x y z = solve (all n ++ all w ++ all k ++ all x ++ all y ++ all z)
    (one_side exprs (from 0) (from 4) (from 8) (from 12) (from 16) (from 20)) (other_side exprs (from 0) (from 4) (from 8) (from 12) (from 16) (from 20)) refl
  where
    from : ℕ → Four Expr
    from i = record { v0 = var i; v1 = var (i + 1); v2 = var (i + 2); v3 = var (i + 3) }

no_more : (t p q r a b c : ℤ) → p ≡ pos 0 → q ≡ pos 0 → r ≡ pos 0 → t +ℤ (p *ℤ a -ℤ q *ℤ b -ℤ r *ℤ c) ≡ t
no_more t p q r a b c f g h =
    combine (t ∷ p ∷ q ∷ r ∷ a ∷ b ∷ c ∷ []) (times a f ∷ times (neg_ℤ b) g ∷ times (neg_ℤ c) h ∷ []) (search quotes depth 40 fits 9000) refl

pub proportional : (v : Four Vector) (n : Four ℤ) → weigh n v ≡ origin → (w k : Four ℤ) → dot4 n w *ℤ dot4 (volumes v) k ≡ dot4 n k *ℤ dot4 (volumes v) w
unfolding volume
proportional v n h w k =
    five_rows n w k xs ys zs
    ∙ no_more (dot4 n k *ℤ dot4 (volumes v) w) (dot4 n ys) (dot4 n xs) (dot4 n zs) (mix_in wholes w k xs zs) (mix_in wholes w k ys zs) (mix_in wholes w k xs ys)
    (ap (λ (u : Vector). u.y) h) (ap (λ (u : Vector). u.x) h) (ap (λ (u : Vector). u.z) h)
  where
    xs : Four ℤ
    xs = each (λ (u : Vector). u.x) v

    ys : Four ℤ
    ys = each (λ (u : Vector). u.y) v

    zs : Four ℤ
    zs = each (λ (u : Vector). u.z) v

pub pairwise : (v : Four Vector) (n : Four ℤ) → weigh n v ≡ origin → (i j : Place) → pick i n *ℤ pick j (volumes v) ≡ pick j n *ℤ pick i (volumes v)
pairwise v n h i j = simp reads at (proportional v n h (at_place i) (at_place j))
