-- The positions after a move: the six coordinates of the vertex are the new ones, and every other number is as it was.
use Rattle.std.specs.Prelude.{ℕ, zero, suc, ◌+◌, ◌*◌, ◌-◌, ◌≤◌, ◌<◌, List, ◌≢◌, ◌⊎◌, ◌≡◌, refl, ℤ, pos, length, get_or, set}
use Rattle.std.proofs.Common.{inl, inr, ⊎_elim, sym, ap, ◌∙◌, add-zero, arith, length-set, get_or-set_same, get_or-set_other}
use Rattle.sequences.specs.Range.{le_or_lt}
use Rattle.meaning.specs.Dragging.{placed}

-- three numbers of c, from one place on, put into p from another on
abbrev pub three_placed : List ℤ → ℕ → List ℤ → ℕ → List ℤ
three_placed p i c k =
    set (set (set p i (get_or c k (pos 0))) (i + 1) (get_or c (k + 1) (pos 0))) (i + 2) (get_or c (k + 2) (pos 0))

-- a start and an end
pub placed_halves : (p : List ℤ) (v : ℕ) (c : List ℤ) → three_placed (three_placed p (6 * v) c 0) (6 * v + 3) c 3 ≡ placed p v c
placed_halves p v c =
    let four : 6 * v + 3 + 1 ≡ 6 * v + 4 = omega arith in
    let five : 6 * v + 3 + 2 ≡ 6 * v + 5 = omega arith in
    λ t.
    set
    (set
    (set (three_placed p (6 * v) c 0) (6 * v + 3) (get_or c 3 (pos 0)))
    (four t) (get_or c 4 (pos 0)))
    (five t) (get_or c 5 (pos 0))

module _ (p : List ℤ) (v : ℕ) (c : List ℤ) where
  abbrev new : ℕ → ℤ
  new k = get_or c k (pos 0)

  abbrev p1 : List ℤ
  p1 = set p (6 * v) (new 0)

  abbrev p2 : List ℤ
  p2 = set p1 (6 * v + 1) (new 1)

  abbrev p3 : List ℤ
  p3 = set p2 (6 * v + 2) (new 2)

  abbrev p4 : List ℤ
  p4 = set p3 (6 * v + 3) (new 3)

  abbrev p5 : List ℤ
  p5 = set p4 (6 * v + 4) (new 4)

  pub placed_length : length (placed p v c) ≡ length p
  placed_length = simp length-set

  -- a number that is none of the six
  pub placed_other : (n : ℕ) → (n < 6 * v) ⊎ (6 * v + 6 ≤ n) → get_or (placed p v c) n (pos 0) ≡ get_or p n (pos 0)
  placed_other n h =
      get_or-set_other p5 (6 * v + 5) n (new 5) (pos 0) (away 5 (omega arith))
      ∙ get_or-set_other p4 (6 * v + 4) n (new 4) (pos 0) (away 4 (omega arith))
      ∙ get_or-set_other p3 (6 * v + 3) n (new 3) (pos 0) (away 3 (omega arith))
      ∙ get_or-set_other p2 (6 * v + 2) n (new 2) (pos 0) (away 2 (omega arith))
      ∙ get_or-set_other p1 (6 * v + 1) n (new 1) (pos 0) (away 1 (omega arith))
      ∙ get_or-set_other p (6 * v) n (new 0) (pos 0) (⊎_elim (λ a. omega arith) (λ b. omega arith) h)
    where
      away : (k : ℕ) → k < 6 → n ≢ 6 * v + k
      away k l = ⊎_elim (λ a. omega arith) (λ b. omega arith) h

  module _ (there : 6 * v + 5 < length p) where
    pub placed_here : (k : ℕ) → k < 6 → get_or (placed p v c) (6 * v + k) (pos 0) ≡ new k
    placed_here zero h =
        rw (add-zero (6 * v))
        (get_or-set_other p5 (6 * v + 5) (6 * v) (new 5) (pos 0) (omega arith)
        ∙ get_or-set_other p4 (6 * v + 4) (6 * v) (new 4) (pos 0) (omega arith)
        ∙ get_or-set_other p3 (6 * v + 3) (6 * v) (new 3) (pos 0) (omega arith)
        ∙ get_or-set_other p2 (6 * v + 2) (6 * v) (new 2) (pos 0) (omega arith)
        ∙ get_or-set_other p1 (6 * v + 1) (6 * v) (new 1) (pos 0) (omega arith)
        ∙ get_or-set_same p (6 * v) (new 0) (pos 0) (omega arith))
    placed_here (suc zero) h =
        get_or-set_other p5 (6 * v + 5) (6 * v + 1) (new 5) (pos 0) (omega arith)
        ∙ get_or-set_other p4 (6 * v + 4) (6 * v + 1) (new 4) (pos 0) (omega arith)
        ∙ get_or-set_other p3 (6 * v + 3) (6 * v + 1) (new 3) (pos 0) (omega arith)
        ∙ get_or-set_other p2 (6 * v + 2) (6 * v + 1) (new 2) (pos 0) (omega arith)
        ∙ get_or-set_same p1 (6 * v + 1) (new 1) (pos 0) (simp length-set (omega arith))
    placed_here (suc (suc zero)) h =
        get_or-set_other p5 (6 * v + 5) (6 * v + 2) (new 5) (pos 0) (omega arith)
        ∙ get_or-set_other p4 (6 * v + 4) (6 * v + 2) (new 4) (pos 0) (omega arith)
        ∙ get_or-set_other p3 (6 * v + 3) (6 * v + 2) (new 3) (pos 0) (omega arith)
        ∙ get_or-set_same p2 (6 * v + 2) (new 2) (pos 0) (simp length-set (omega arith))
    placed_here (suc (suc (suc zero))) h =
        get_or-set_other p5 (6 * v + 5) (6 * v + 3) (new 5) (pos 0) (omega arith)
        ∙ get_or-set_other p4 (6 * v + 4) (6 * v + 3) (new 4) (pos 0) (omega arith)
        ∙ get_or-set_same p3 (6 * v + 3) (new 3) (pos 0) (simp length-set (omega arith))
    placed_here (suc (suc (suc (suc zero)))) h =
        get_or-set_other p5 (6 * v + 5) (6 * v + 4) (new 5) (pos 0) (omega arith)
        ∙ get_or-set_same p4 (6 * v + 4) (new 4) (pos 0) (simp length-set (omega arith))
    placed_here (suc (suc (suc (suc (suc zero))))) h = get_or-set_same p5 (6 * v + 5) (new 5) (pos 0) (simp length-set (omega arith))
    placed_here (suc (suc (suc (suc (suc (suc k)))))) h = absurd (omega arith)

  -- of another vertex
  pub placed_elsewhere : (u k : ℕ) → u ≢ v → k < 6 → get_or (placed p v c) (6 * u + k) (pos 0) ≡ get_or p (6 * u + k) (pos 0)
  placed_elsewhere u k n h =
      placed_other (6 * u + k) (⊎_elim (λ le. inr (omega arith)) (λ lt. inl (omega arith)) (le_or_lt v u))
