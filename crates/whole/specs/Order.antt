-- The order of whole numbers by `omega`, which knows only ℕ: a number is its positive part less its negative part, and a
-- polynomial the sum of its terms' parts, each monomial's two parts being unknowns to `omega`. Facts go there (`of_le`) and back (`le`).
use Rattle.std.specs.Prelude.{◌≡◌, refl, List, [], ◌∷◌, ℕ, suc, ◌+◌, ◌*◌, ◌≤◌, ◌<◌, T, ℤ, pos, negsuc, neg_ℤ, nat_abs, ◌+ℤ◌, ◌-ℤ◌, ◌*ℤ◌, ◌≤ℤ◌, ◌<ℤ◌}
use Rattle.std.proofs.Common.{sym, ◌∙◌, ap, arith, leb→le, le→leb, ltb→lt, lt→ltb}
use Rattle.std.proofs.Math.IntN.{+ℤ_invl}
use Rattle.std.specs.Int.Signed.{le_z, lt_z}
use Rattle.whole.specs.Laws.{swap_inner}
use Rattle.whole.specs.Ring.{Poly, nil, term, mono, value, norm_is}
use Rattle.whole.specs.Quote.{Q, poly, quotes, combine, times}

-- ---- the two parts of a number

abbrev pub P : ℤ → ℕ
P (pos n) = n
P (negsuc n) = 0

abbrev pub M : ℤ → ℕ
M (pos n) = 0
M (negsuc n) = suc n

pub parts : (z : ℤ) → z +ℤ pos (M z) ≡ pos (P z)
parts (pos n) = ap pos (omega arith)
parts (negsuc n) = +ℤ_invl (pos (suc n))

pos_same : (m n : ℕ) → pos m ≡ pos n → m ≡ n
pos_same m n h = ap nat_abs h

-- numbers that differ by n - m have parts that do
shift : (x y m n : ℤ) (a b c d : ℤ) → x +ℤ a ≡ b → y +ℤ c ≡ d → x +ℤ m ≡ y +ℤ n → b +ℤ c +ℤ m ≡ d +ℤ a +ℤ n
shift x y m n a b c d f g h =
    combine (x ∷ y ∷ m ∷ n ∷ a ∷ b ∷ c ∷ d ∷ []) (times (negsuc 0) f ∷ times (pos 1) g ∷ times (pos 1) h ∷ []) (search quotes depth 40 fits 9000) refl

pub apart : (x y : ℤ) (m n : ℕ) → x +ℤ pos m ≡ y +ℤ pos n → P x + M y + m ≡ P y + M x + n
apart x y m n h = pos_same _ _ (shift x y (pos m) (pos n) (pos (M x)) (pos (P x)) (pos (M y)) (pos (P y)) (parts x) (parts y) h)

-- ---- the order, by the parts, both ways: rules for `omega`

pub le_parts : {a b : ℤ} → a ≤ℤ b → P a + M b ≤ P b + M a
le_parts {a} {b} h = go a b h.le
  where
    go : (a b : ℤ) → T (le_z a b) → P a + M b ≤ P b + M a
    go (pos a) (pos b) t = omega (arith, leb→le a b t)
    go (pos a) (negsuc b) t = absurd t
    go (negsuc a) (pos b) t = omega arith
    go (negsuc a) (negsuc b) t = omega (arith, leb→le b a t)

pub lt_parts : {a b : ℤ} → a <ℤ b → P a + M b < P b + M a
lt_parts {a} {b} h = go a b h.lt
  where
    go : (a b : ℤ) → T (lt_z a b) → P a + M b < P b + M a
    go (pos a) (pos b) t = omega (arith, ltb→lt a b t)
    go (pos a) (negsuc b) t = absurd t
    go (negsuc a) (pos b) t = omega arith
    go (negsuc a) (negsuc b) t = omega (arith, ltb→lt b a t)

pub eq_parts : {a b : ℤ} → a ≡ b → P a + M b ≡ P b + M a
eq_parts {a} {b} h = ap (λ x. P x + M b) h ∙ ap (λ x. P b + M x) (sym h)

pub parts_le : {a b : ℤ} → P a + M b ≤ P b + M a → a ≤ℤ b
parts_le {a} {b} h = record { le = go a b h }
  where
    go : (a b : ℤ) → P a + M b ≤ P b + M a → T (le_z a b)
    go (pos a) (pos b) h = le→leb a b (omega arith)
    go (pos a) (negsuc b) h = absurd (omega arith)
    go (negsuc a) (pos b) h = tt
    go (negsuc a) (negsuc b) h = le→leb b a (omega arith)

pub parts_lt : {a b : ℤ} → P a + M b < P b + M a → a <ℤ b
parts_lt {a} {b} h = record { lt = go a b h }
  where
    go : (a b : ℤ) → P a + M b < P b + M a → T (lt_z a b)
    go (pos a) (pos b) h = lt→ltb a b (omega arith)
    go (pos a) (negsuc b) h = absurd (omega arith)
    go (negsuc a) (pos b) h = tt
    go (negsuc a) (negsuc b) h = lt→ltb b a (omega arith)

pub parts_eq : {a b : ℤ} → P a + M b ≡ P b + M a → a ≡ b
parts_eq {a = pos a} {b = pos b} h = ap pos (omega arith)
parts_eq {a = pos a} {b = negsuc b} h = absurd (omega arith)
parts_eq {a = negsuc a} {b = pos b} h = absurd (omega arith)
parts_eq {a = negsuc a} {b = negsuc b} h = ap negsuc (omega arith)

pub ruleset ord = (le_parts, lt_parts, eq_parts, parts_le, parts_lt, parts_eq)

-- ---- the two parts of a polynomial

-- a term's shares: of c times z
abbrev pub up : ℤ → ℤ → ℕ
up (pos k) z = k * P z
up (negsuc k) z = suc k * M z

abbrev pub down : ℤ → ℤ → ℕ
down (pos k) z = k * M z
down (negsuc k) z = suc k * P z

abbrev pub p_p : List ℤ → Poly → ℕ
p_p e nil = 0
p_p e (term c m p) = up c (mono e m) + p_p e p

abbrev pub m_p : List ℤ → Poly → ℕ
m_p e nil = 0
m_p e (term c m p) = down c (mono e m) + m_p e p

stretch : (k z m p : ℤ) → z +ℤ m ≡ p → k *ℤ z +ℤ k *ℤ m ≡ k *ℤ p
stretch k z m p h = combine (k ∷ z ∷ m ∷ p ∷ []) (times k h ∷ []) (search quotes depth 40 fits 9000) refl

turn : (k z m p : ℤ) → z +ℤ m ≡ p → neg_ℤ k *ℤ z +ℤ k *ℤ p ≡ k *ℤ m
turn k z m p h = combine (k ∷ z ∷ m ∷ p ∷ []) (times (neg_ℤ k) h ∷ []) (search quotes depth 40 fits 9000) refl

share : (c z : ℤ) → c *ℤ z +ℤ pos (down c z) ≡ pos (up c z)
share (pos k) z = stretch (pos k) z (pos (M z)) (pos (P z)) (parts z)
share (negsuc k) z = turn (pos (suc k)) z (pos (M z)) (pos (P z)) (parts z)

shares : (e : List ℤ) (p : Poly) → value e p +ℤ pos (m_p e p) ≡ pos (p_p e p)
shares e nil = refl
shares e (term c m p) =
    swap_inner (c *ℤ mono e m) (value e p) (pos (down c (mono e m))) (pos (m_p e p))
    ∙ ap (λ x. x +ℤ (value e p +ℤ pos (m_p e p))) (share c (mono e m)) ∙ ap (λ x. pos (up c (mono e m)) +ℤ x) (shares e p)

move : (a b v m p : ℤ) → v +ℤ m ≡ p → v ≡ b -ℤ a → b +ℤ m ≡ a +ℤ p
move a b v m p h k = combine (a ∷ b ∷ v ∷ m ∷ p ∷ []) (times (pos 1) h ∷ times (negsuc 0) k ∷ []) (search quotes depth 40 fits 9000) refl

differ : (e : List ℤ) (a b : ℤ) (q : Q e (b -ℤ a)) → P b + M a + m_p e (poly q) ≡ P a + M b + p_p e (poly q)
differ e a b q =
    let v : ℤ = value e (poly q) in
    let k : v ≡ b -ℤ a = norm_is e q.expr ∙ q.is in
    apart b a (m_p e (poly q)) (p_p e (poly q)) (move a b v (pos (m_p e (poly q))) (pos (p_p e (poly q))) (shares e (poly q)) k)

module _ (e : List ℤ) {a b : ℤ} (q : Q e (b -ℤ a)) where
  pub le : m_p e (poly q) ≤ p_p e (poly q) → a ≤ℤ b
  le h = let d = differ e a b q in parts_le (omega arith)

  pub lt : m_p e (poly q) < p_p e (poly q) → a <ℤ b
  lt h = let d = differ e a b q in parts_lt (omega arith)

  pub eq : m_p e (poly q) ≡ p_p e (poly q) → a ≡ b
  eq h = let d = differ e a b q in parts_eq (omega arith)

  pub of_le : a ≤ℤ b → m_p e (poly q) ≤ p_p e (poly q)
  of_le h = let d = differ e a b q in omega (arith, ord)

  pub of_lt : a <ℤ b → m_p e (poly q) < p_p e (poly q)
  of_lt h = let d = differ e a b q in omega (arith, ord)

  pub of_eq : a ≡ b → m_p e (poly q) ≡ p_p e (poly q)
  of_eq h = let d = differ e a b q in omega (arith, ord)

-- ---- products

pub nn_mul : (x y : ℤ) → pos 0 ≤ℤ x → pos 0 ≤ℤ y → pos 0 ≤ℤ (x *ℤ y)
nn_mul (pos x) (pos y) h k = parts_le (omega arith)
nn_mul (pos x) (negsuc y) h k = absurd k.le
nn_mul (negsuc x) y h k = absurd h.le

-- ---- shown at work

chain : (a b c : ℤ) → a ≤ℤ b → b <ℤ c → a <ℤ c
chain a b c h k = omega (arith, ord)

linear : (a b c : ℤ) → a ≤ℤ b → b <ℤ c → (a +ℤ b) <ℤ (pos 2 *ℤ c)
linear a b c h k = lt (a ∷ b ∷ c ∷ []) (search quotes depth 40 fits 9000) (omega (arith, ord))

squares : (a b : ℤ) → pos 0 ≤ℤ a → a ≤ℤ b → (a *ℤ a) ≤ℤ (b *ℤ b)
squares a b h k =
    let e : List ℤ = a ∷ b ∷ [] in
    let d : pos 0 ≤ℤ (b -ℤ a) = le e (search quotes depth 40 fits 9000) (omega (arith, ord)) in
    let s : pos 0 ≤ℤ (b +ℤ a) = le e (search quotes depth 40 fits 9000) (omega (arith, ord)) in
    le e (search quotes depth 40 fits 9000) (omega (arith, of_le e (search quotes depth 40 fits 9000) (nn_mul (b -ℤ a) (b +ℤ a) d s)))

from_an_equation : (a b c : ℤ) → a +ℤ b ≡ c +ℤ c → a <ℤ c → c <ℤ b
from_an_equation a b c h k =
    let e : List ℤ = a ∷ b ∷ c ∷ [] in
    lt e (search quotes depth 40 fits 9000) (omega (arith, ord, of_eq e (search quotes depth 40 fits 9000) h))

squeezed : (a b : ℤ) → (a +ℤ a) ≤ℤ (b +ℤ b) → (b +ℤ b) <ℤ (a +ℤ a +ℤ pos 1) → a ≡ b
squeezed a b h k =
    let e : List ℤ = a ∷ b ∷ [] in
    eq e (search quotes depth 40 fits 9000)
    (omega (arith, of_le e (search quotes depth 40 fits 9000) h, of_lt e (search quotes depth 40 fits 9000) k))
