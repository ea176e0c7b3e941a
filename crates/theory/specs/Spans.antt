-- Spans of numbers: which numbers a span holds, and that weights bring nothing together out of two spans that do not meet.
use Rattle.std.specs.Prelude.{◌≡◌, refl, ◌≢◌, ◌⊎◌, Bool, true, false, cond, not, ◌&&◌, List, ℕ, T, ℤ, pos, negsuc, ◌*ℤ◌, ◌≤ℤ◌, ◌<ℤ◌}
use Rattle.std.proofs.Common.{sym, inl, inr, true≢false, arith, lt→ltb}
use Rattle.std.proofs.Math.Logic.{⊎_map}
use Rattle.std.proofs.Math.Dec.{nleb→lt}
use Rattle.std.specs.Int.Signed.{le_z, le_z_yes}
use Rattle.whole.specs.Order.{ord}
use Rattle.meaning.specs.Equations.{total}
use Rattle.meaning.specs.Boxes.{smaller, larger, Span, joint, meet}
use Rattle.theory.specs.Bounds.{Every, every_imp, kept_apart, times_rises}

-- the span reaches over z
pub record Holds (p : Span) (z : ℤ) : Type 0 where
  pub low : p.low ≤ℤ z
  pub high : z ≤ℤ p.high

-- ---- the smaller and the larger of two numbers

pub data Compared (a b : ℤ) : Bool → Type 0 where
  ordered : a ≤ℤ b → Compared a b true
  reversed : b <ℤ a → Compared a b false

pub compared : (a b : ℤ) → Compared a b (le_z a b)
compared a b = go (le_z a b) refl
  where
    above : (a b : ℤ) → T (not (le_z a b)) → b <ℤ a
    above (pos a) (pos b) t = record { lt = lt→ltb b a (nleb→lt a b t) }
    above (pos a) (negsuc b) t = record { lt = tt }
    above (negsuc a) (pos b) t = absurd t
    above (negsuc a) (negsuc b) t = record { lt = lt→ltb a b (nleb→lt b a t) }

    go : (c : Bool) → le_z a b ≡ c → Compared a b c
    go true e = ordered (le_z_yes (rw e tt))
    go false e = reversed (above a b (rw e tt))

pub not_le : (a b : ℤ) → le_z a b ≡ false → b <ℤ a
not_le a b h = go (le_z a b) h (compared a b)
  where
    go : (c : Bool) → c ≡ false → Compared a b c → b <ℤ a
    go true e c = absurd (true≢false e)
    go false e (reversed h) = h

pub record Around (a b low high : ℤ) : Type 0 where
  pub low_left : low ≤ℤ a
  pub low_right : low ≤ℤ b
  pub high_left : a ≤ℤ high
  pub high_right : b ≤ℤ high

pub around : (a b : ℤ) → Around a b (smaller a b) (larger a b)
around a b = go (le_z a b) (compared a b)
  where
    go : (c : Bool) → Compared a b c → Around a b (cond c a b) (cond c b a)
    go true (ordered h) = omega (arith, ord)
    go false (reversed h) = omega (arith, ord)

pub smaller_greatest : (c a b : ℤ) → c ≤ℤ a → c ≤ℤ b → c ≤ℤ smaller a b
smaller_greatest c a b p q = go (le_z a b)
  where
    go : (d : Bool) → c ≤ℤ cond d a b
    go true = p
    go false = q

pub larger_least : (c a b : ℤ) → a ≤ℤ c → b ≤ℤ c → larger a b ≤ℤ c
larger_least c a b p q = go (le_z a b)
  where
    go : (d : Bool) → cond d b a ≤ℤ c
    go true = q
    go false = p

pub joint_left : (p q : Span) (z : ℤ) → Holds p z → Holds (joint p q) z
joint_left p q z h =
    let l = around p.low q.low in
    let r = around p.high q.high in
    record { low = omega (arith, ord, l.low_left); high = omega (arith, ord, r.high_left) }

pub joint_right : (p q : Span) (z : ℤ) → Holds q z → Holds (joint p q) z
joint_right p q z h =
    let l = around p.low q.low in
    let r = around p.high q.high in
    record { low = omega (arith, ord); high = omega (arith, ord) }

-- ---- two spans that do not meet

-- one lies below the other
abbrev pub Apart : Span → Span → Type 0
Apart p q = (p.high <ℤ q.low) ⊎ (q.high <ℤ p.low)

pub not_meeting : (p q : Span) → meet p q ≡ false → Apart p q
not_meeting p q h = go (le_z p.low q.high) (le_z q.low p.high) refl refl h
  where
    go : (c d : Bool) → le_z p.low q.high ≡ c → le_z q.low p.high ≡ d → (c && d) ≡ false → Apart p q
    go true true e f h = absurd (true≢false h)
    go true false e f h = inl (not_le q.low p.high f)
    go false d e f h = inr (not_le p.low q.high e)

-- k times a span
abbrev pub stretched : ℤ → Span → Span
stretched k p = record { low = k *ℤ p.low; high = k *ℤ p.high }

pub apart_stretched : (k : ℤ) → pos 0 <ℤ k → (p q : Span) → Apart p q → Apart (stretched k p) (stretched k q)
apart_stretched k h p q = ⊎_map (times_rises k _ _ h) (times_rises k _ _ h)

-- two lists, all of whose values lie in one of two spans that stand apart
pub record Boxed {ℓ} {A : Type ℓ} (f : A → ℤ) (a b : List A) : Type 0 where
  pub p : Span
  pub q : Span
  pub apart : Apart p q
  pub in_first : Every (λ e. Holds p (f e)) a
  pub in_second : Every (λ e. Holds q (f e)) b

-- no weights bring them together
pub boxed_apart {ℓ} : {A : Type ℓ} (f : A → ℤ) (a b : List A) → Boxed f a b → (u v : ℕ → ℕ) →
    pos 0 <ℤ total (λ e. pos 1) (λ i. pos (u i)) a → total (λ e. pos 1) (λ i. pos (u i)) a ≡ total (λ e. pos 1) (λ i. pos (v i)) b →
    total f (λ i. pos (u i)) a ≢ total f (λ i. pos (v i)) b
boxed_apart {A = A} f a b x u v some sums same = go x.apart
  where
    below_high : (p : Span) (l : List A) → Every (λ e. Holds p (f e)) l → Every (λ e. f e ≤ℤ p.high) l
    below_high p l h = every_imp (λ e. Holds p (f e)) (λ e. f e ≤ℤ p.high) (λ e k. k.high) l h

    above_low : (p : Span) (l : List A) → Every (λ e. Holds p (f e)) l → Every (λ e. p.low ≤ℤ f e) l
    above_low p l h = every_imp (λ e. Holds p (f e)) (λ e. p.low ≤ℤ f e) (λ e k. k.low) l h

    go : Apart x.p x.q → ⊥
    go (inl h) = kept_apart f _ _ a b u v (below_high x.p a x.in_first) (above_low x.q b x.in_second) h some sums same
    go (inr h) =
        kept_apart f _ _ b a v u (below_high x.q b x.in_second) (above_low x.p a x.in_first) h (rw sums at some) (sym sums) (sym same)
