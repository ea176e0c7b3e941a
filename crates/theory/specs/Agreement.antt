-- Numbers that are 0 or have the sign of D: a sum of such is one, and so is one times what is not negative. For a list of them, each in turn.
use Rattle.std.specs.Prelude.{◌≡◌, refl, List, [], ◌∷◌, ℕ, zero, suc, ◌<◌, T, ltb, ℤ, pos, negsuc, ◌+ℤ◌, ◌*ℤ◌, length, ◌≤ℤ◌}
use Rattle.std.proofs.Common.{sym, ◌∙◌, ap, suc-add, not-suc-le-zero, arith, ltb→lt}
use Rattle.std.proofs.Math.IntN.{+ℤ_idl, +ℤ_idr, zero-*ℤ, *ℤ-zero}
use Rattle.whole.specs.Signs.{Sgn, positive, nought, negative, sgn, ◌·◌, sgn_mul, nought_is, not_negative_is, Agrees, none, alike}
use Rattle.whole.specs.Cramer.{Four, dot4}
use Rattle.theory.specs.Solved.{AllAgree}

sgn_sum : (a b : ℤ) → sgn a ≡ sgn b → sgn (a +ℤ b) ≡ sgn b
sgn_sum (pos zero) b h = ap sgn (+ℤ_idl b)
sgn_sum (pos (suc a)) (pos zero) h = cc
sgn_sum (pos (suc a)) (pos (suc b)) h = simp suc-add
sgn_sum (pos (suc a)) (negsuc b) h = cc
sgn_sum (negsuc a) (pos zero) h = cc
sgn_sum (negsuc a) (pos (suc b)) h = cc
sgn_sum (negsuc a) (negsuc b) h = refl

module _ {D : ℤ} where
  pub agrees_plus : {a b : ℤ} → Agrees D a → Agrees D b → Agrees D (a +ℤ b)
  agrees_plus {a} {b} (none p) q = rw (p, +ℤ_idl) q
  agrees_plus {a} {b} (alike p) (none q) = rw (q, +ℤ_idr) (alike p)
  agrees_plus {a} {b} (alike p) (alike q) = alike (sgn_sum a b (p ∙ sym q) ∙ q)

  pub agrees_times : {a : ℤ} → Agrees D a → (k : ℤ) → pos 0 ≤ℤ k → Agrees D (a *ℤ k)
  agrees_times {a} (none p) k h = none (ap (λ z. z *ℤ k) p ∙ zero-*ℤ k)
  agrees_times {a} (alike p) k h = go (sgn k) refl
    where
      go : (s : Sgn) → sgn k ≡ s → Agrees D (a *ℤ k)
      go positive e = alike (sgn_mul a k ∙ ap (λ s. sgn a · s) e ∙ kept (sgn a) ∙ p)
        where
          kept : (s : Sgn) → s · positive ≡ s
          kept positive = refl
          kept nought = refl
          kept negative = refl
      go nought e = none (ap (λ z. a *ℤ z) ((nought_is k).0 e) ∙ *ℤ-zero a)
      go negative e = absurd ((not_negative_is k).1 h e)

-- four numbers that agree, combined by four that are not negative
pub record AgreeFour (D : ℤ) (n : Four ℤ) : Type 0 where
  pub a0 : Agrees D n.v0
  pub a1 : Agrees D n.v1
  pub a2 : Agrees D n.v2
  pub a3 : Agrees D n.v3

pub record NotNegative (k : Four ℤ) : Type 0 where
  pub k0 : pos 0 ≤ℤ k.v0
  pub k1 : pos 0 ≤ℤ k.v1
  pub k2 : pos 0 ≤ℤ k.v2
  pub k3 : pos 0 ≤ℤ k.v3

pub agrees_dot : {D : ℤ} (n k : Four ℤ) → AgreeFour D n → NotNegative k → Agrees D (dot4 n k)
agrees_dot n k a h =
    agrees_plus (agrees_plus (agrees_plus (agrees_times a.a0 k.v0 h.k0) (agrees_times a.a1 k.v1 h.k1))
    (agrees_times a.a2 k.v2 h.k2)) (agrees_times a.a3 k.v3 h.k3)

-- ---- a list of them

module _ {ℓ} {A : Type ℓ} {D : ℤ} where
  pub agree_none : {w : ℕ → ℤ} → AllAgree {A = A} D w []
  agree_none = record { each = λ i h. absurd (not-suc-le-zero h) }

  pub agree_more : {w : ℕ → ℤ} {a : A} {l : List A} → Agrees D (w 0) → AllAgree D (λ i. w (suc i)) l → AllAgree D w (a ∷ l)
  agree_more {w} {a} {l} p q = record { each = go }
    where
      go : (i : ℕ) → i < length (a ∷ l) → Agrees D (w i)
      go zero h = p
      go (suc i) h = q.each i (omega arith)

  pub agree_three : {w : ℕ → ℤ} {a b c : A} → Agrees D (w 0) → Agrees D (w 1) → Agrees D (w 2) → AllAgree D w (a ∷ b ∷ c ∷ [])
  agree_three p q r = agree_more p (agree_more q (agree_more r agree_none))

  -- the one at a place that is there
  pub agreed : {w : ℕ → ℤ} {l : List A} → AllAgree D w l → (i : ℕ) → T (ltb i (length l)) → Agrees D (w i)
  agreed {l = l} h i t = h.each i (ltb→lt i (length l) t)
