-- What holds of vertices as they are written holds of them put in rising number, and what holds of two places in either order holds with the
-- lower one first.
use Rattle.std.proofs.Common.{subst₂, arith}
use Rattle.std.specs.Prelude.{Bool, true, false, cond, ℕ, min, max, ◌≤◌}
use Rattle.std.proofs.Math.Decide.{dec_le}
use Rattle.meaning.specs.Scene.{Scene, before, rising, among}
use Rattle.meaning.specs.declared.Ends.{Ends}
use Rattle.meaning.specs.declared.Corners.{Corners}

pub cond_keeps : {A : Type 0} (Q : A → Type 0) (c : Bool) (x y : A) → Q x → Q y → Q (cond c x y)
cond_keeps Q true x y p q = p
cond_keeps Q false x y p q = q

pub rising_keeps : (s : Scene) (P : ℕ → Type 0) (a b : ℕ) → P a → P b → P (rising s a b).low × P (rising s a b).high
rising_keeps s P a b p q = cond_keeps (λ (e : Ends). P e.low × P e.high) (before s b a) _ _ (q, p) (p, q)

pub among_keeps : (s : Scene) (P : ℕ → Type 0) (e : Ends) (c : ℕ) → P e.low → P e.high → P c → P (among s e c).low × P (among s e c).middle × P (among s e c).high
among_keeps s P e c l h p =
    let Q : Corners → Type 0 = λ (k : Corners). P k.low × P k.middle × P k.high in
    cond_keeps Q (before s c e.low) _ _ (p, l, h) (cond_keeps Q (before s c e.high) _ _ (l, p, h) (l, h, p))

pub lower_first : (P : ℕ → ℕ → Type 0) (i j : ℕ) → P i j → P j i → P (min i j) (max i j)
lower_first P i j h k = go (dec_le i j)
  where
    go : Dec (i ≤ j) → P (min i j) (max i j)
    go (yes o) = subst₂ P (omega arith) (omega arith) h
    go (no o) = subst₂ P (omega arith) (omega arith) k
