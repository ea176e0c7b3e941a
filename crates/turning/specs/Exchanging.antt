-- Coordinates turned round where they stand: for each place in the first half of the list, what stands there and what it is to come from exchange places.
use Rattle.std.specs.Prelude.{ℕ, ◌+◌, ◌*◌, ◌≤◌, ◌<◌, Bool, true, false, cond, ◌||◌, List, ◌≡◌, refl, ltb, eqb, ℤ, pos, length, get_or, set}
use Rattle.std.proofs.Common.{sym, ◌∙◌, ap, arith, length-set, get_or-set_same, get_or-set_other, lt-ltb, le-ltb, eqb-true}
use Rattle.std.proofs.Math.Decide.{dec_lt}
use Rattle.std.proofs.lemmas.Bool.{eqb-false}
use Rattle.turning_laws.specs.Turned.{source, source_inside, source_behind, source_twice}

-- l with the numbers at i and j in each other's place
abbrev pub exchanged : List ℤ → ℕ → ℕ → List ℤ
exchanged l i j = set (set l i (get_or l j (pos 0))) j (get_or l i (pos 0))

-- where the number at x comes from once the places below i have been exchanged
abbrev pub halfway : ℕ → ℕ → ℕ → ℕ
halfway n i x = cond (ltb x i || ltb (source n x) i) (source n x) x

-- of a list that was l, has n vertices and is l': the places below i have been exchanged
pub record Exchanging (n : ℕ) (l l' : List ℤ) (i : ℕ) : Type 0 where
  pub within : i ≤ 3 * n
  pub long : length l' ≡ length l
  pub from : (x : ℕ) → get_or l' x (pos 0) ≡ get_or l (halfway n i x) (pos 0)

-- ---- two numbers exchanged

module _ (l : List ℤ) (i j : ℕ) (h : i < length l) (k : j < length l) where
  pub exchanged_long : length (exchanged l i j) ≡ length l
  exchanged_long = simp length-set

  pub exchanged_second : get_or (exchanged l i j) j (pos 0) ≡ get_or l i (pos 0)
  exchanged_second = get_or-set_same (set l i (get_or l j (pos 0))) j (get_or l i (pos 0)) (pos 0) (rw length-set k)

  pub exchanged_first : (i ≡ j → ⊥) → get_or (exchanged l i j) i (pos 0) ≡ get_or l j (pos 0)
  exchanged_first d =
      get_or-set_other (set l i (get_or l j (pos 0))) j i (get_or l i (pos 0)) (pos 0) d ∙ get_or-set_same l i (get_or l j (pos 0)) (pos 0) h

  pub exchanged_other : (x : ℕ) → (x ≡ i → ⊥) → (x ≡ j → ⊥) → get_or (exchanged l i j) x (pos 0) ≡ get_or l x (pos 0)
  exchanged_other x d e =
      get_or-set_other (set l i (get_or l j (pos 0))) j x (get_or l i (pos 0)) (pos 0) e ∙ get_or-set_other l i x (get_or l j (pos 0)) (pos 0) d

-- ---- halfway

module _ (n i x : ℕ) where
  pub halfway_done : (x < i) → halfway n i x ≡ source n x
  halfway_done h = rw (lt-ltb x i h)

  pub halfway_met : (source n x < i) → halfway n i x ≡ source n x
  halfway_met h = go (ltb x i)
    where
      go : (b : Bool) → cond (b || ltb (source n x) i) (source n x) x ≡ source n x
      go true = refl
      go false = rw (lt-ltb (source n x) i h)

  pub halfway_left : i ≤ x → i ≤ source n x → halfway n i x ≡ x
  halfway_left h k = rw (le-ltb x i h, le-ltb (source n x) i k)

-- the other half
pub source_high : (n i : ℕ) → i < 3 * n → (3 * n ≤ source n i) × (source n i < 6 * n)
source_high n i h =
    let e = source_inside n i (omega arith) in
    (rw e (omega arith), rw e (omega arith))

pub source_low : (n i : ℕ) → 3 * n ≤ i → i < 6 * n → source n i < 3 * n
source_low n i h k = rw (source_inside n i k) (omega arith)

-- ---- the loop

pub exchanging_starts : (n : ℕ) (l : List ℤ) → Exchanging n l l 0
exchanging_starts n l = record {
  within = omega arith;
  long = refl;
  from = λ x. ap (λ k. get_or l k (pos 0)) (sym (halfway_left n 0 x (omega arith) (omega arith)));
}

module _ {n : ℕ} {l l' : List ℤ} {i : ℕ} (e : Exchanging n l l' i) (room : 6 * n ≤ length l) (h : i < 3 * n) where
  -- the place that i exchanges with is in the other half, and inside the list
  pub source_there : source n i < length l'
  source_there = omega (arith, (source_high n i h).1, e.long)

  goes_on : Exchanging n l (exchanged l' i (source n i)) (i + 1)
  goes_on = record {
    within = omega arith;
    long = exchanged_long l' i j here source_there ∙ e.long;
    from = λ x. by_place x (eqb x i) refl (eqb x j) refl;
  }
    where
      j : ℕ
      j = source n i

      here : i < length l'
      here = omega (arith, e.long)

      high : 3 * n ≤ j
      high = (source_high n i h).0

      back : source n j ≡ i
      back = source_twice n i

      at : (x y : ℕ) → x ≡ y → get_or l x (pos 0) ≡ get_or l y (pos 0)
      at x y p = ap (λ k. get_or l k (pos 0)) p

      by_place : (x : ℕ) (b : Bool) → eqb x i ≡ b → (c : Bool) → eqb x j ≡ c → get_or (exchanged l' i j) x (pos 0) ≡ get_or l (halfway n (i + 1) x) (pos 0)
      by_place x true p c q =
          let x_is : x ≡ i = eqb-true x i p in
          rw x_is
          (exchanged_first l' i j here source_there (λ d. omega (arith, high)) ∙ e.from j
          ∙ at _ _ (halfway_left n i j (omega (arith, high)) (rw back (omega arith)) ∙ sym (halfway_done n (i + 1) i (omega arith))))
      by_place x false p true q =
          let x_is : x ≡ j = eqb-true x j q in
          rw x_is
          (exchanged_second l' i j here source_there ∙ e.from i
          ∙ at _ _ (halfway_left n i i (omega arith) (omega (arith, high)) ∙ sym (halfway_met n (i + 1) j (rw back (omega arith)) ∙ back)))
      by_place x false p false q =
          exchanged_other l' i j here source_there x (eqb-false x i p) (eqb-false x j q) ∙ e.from x ∙ at _ _ (unmoved (dec_lt x i) (dec_lt (source n x) i))
        where
          not_i : x ≡ i → ⊥
          not_i = eqb-false x i p

          not_met : source n x ≡ i → ⊥
          not_met f = eqb-false x j q (sym (source_twice n x) ∙ ap (source n) f)

          unmoved : Dec (x < i) → Dec (source n x < i) → halfway n i x ≡ halfway n (i + 1) x
          unmoved (yes b) c = halfway_done n i x b ∙ sym (halfway_done n (i + 1) x (omega arith))
          unmoved (no b) (yes c) = halfway_met n i x c ∙ sym (halfway_met n (i + 1) x (omega arith))
          unmoved (no b) (no c) =
              halfway_left n i x (omega arith) (omega arith) ∙ sym (halfway_left n (i + 1) x (omega (arith, not_i)) (omega (arith, not_met)))

  pub exchanging_goes : {l'' : List ℤ} {j : ℕ} → l'' ≡ exchanged l' i j → j ≡ source n i → Exchanging n l l'' (i + 1)
  exchanging_goes is from = rw (is, from) goes_on

-- in the end every number has come from its place
pub exchanging_ends : {n : ℕ} {l l' : List ℤ} {i : ℕ} → Exchanging n l l' i → 3 * n ≤ i → (x : ℕ)
    → get_or l' x (pos 0) ≡ get_or l (source n x) (pos 0)
exchanging_ends {n} {l} {l'} {i} e h x = e.from x ∙ ap (λ k. get_or l k (pos 0)) (all (dec_lt x i) (dec_lt x (6 * n)))
  where
    all : Dec (x < i) → Dec (x < 6 * n) → halfway n i x ≡ source n x
    all (yes b) c = halfway_done n i x b
    all (no b) (yes c) = halfway_met n i x (omega (arith, source_low n x (omega arith) c))
    all (no b) (no c) =
        let s = source_behind n x (omega arith) in
        halfway_left n i x (omega arith) (omega (arith, e.within)) ∙ sym s
