-- Where all volumes are 0 in every turn, weights for the corners left can be had with one more of them left out; and the corners left allow
-- more than one solution.
use Rattle.std.specs.Prelude.{ℕ, ◌+◌, ◌<◌, ◌≡◌, refl, ◌≢◌, Bool, true, false, List, ◌++◌, ltb, ℤ, pos, ◌*ℤ◌, length}
use Rattle.std.proofs.Common.{sym, ◌∙◌, ap, ⊎_elim, length-append}
use Rattle.std.proofs.Math.IntN.{*ℤ-zero}
use Rattle.whole.specs.Cramer.{Four, each, Place, pick, weigh}
use Rattle.whole.specs.Signs.{factor_zero}
use Rattle.meaning.specs.Pieces.{Event}
use Rattle.corner_laws.specs.Left.{TouchIn, without, without_out, still_out, now_out}
use Rattle.corner_laws.specs.AtMostOne.{Allowed, AtMostOne}
use Rattle.corner_laws.specs.Level.{Level}
use Rattle.corner_laws.specs.Leave.{Leaves, leave}
use Rattle.corner_laws.specs.Signed.{sided, signed, sided_zero, zero_sided, level_signed}
use Rattle.corner_laws.specs.Slots.{Based, differences_in, nought_by, Preferred, none_out, pick_each}
use Rattle.corner_laws.specs.Candidate.{Spread, spread}
use Rattle.corner_laws.specs.Dependent.{Dependent, Vanish, dependent_at, some_left}

module _ (a b : List Event) {left : ℕ → Bool} {s e : ℕ} {q : Four ℕ} (B : Based (a ++ b) s e q) (p : Preferred (a ++ b) left s e q) where
  six : length a + length b ≡ 6
  six = sym (length-append a b) ∙ B.six

  -- numbers that balance, without the corner at `free` and those left out, and not 0 at another of the four
  record Loose (free : Place) : Type 0 where
    k : ℕ → ℤ
    level : Level a b k
    out : (i : ℕ) → i < length a + length b → without (pick free q) left i ≡ false → k i ≡ pos 0
    place : Place
    some : k (pick place q) ≢ pos 0

  there : (k : Place) → pick k q < length a + length b
  there k = rw six (B.order.there k)

  by_dependent : {free : Place} → Dependent (each left q) (differences_in (a ++ b) s e q) free → Loose free
  by_dependent {free} D = record {
    k = signed (length a) N;
    level = level_signed a b (nought_by B N S.remains (ap (λ n. weigh n (differences_in (a ++ b) s e q)) S.four ∙ D.flat));
    out = λ i h o. ap (sided (ltb i (length a))) (none i (rw six at h) o) ∙ zero_sided (ltb i (length a));
    place = D.some.place;
    some = λ z. D.some.is (sym (at D.some.place) ∙ sided_zero (ltb (pick D.some.place q) (length a)) z);
  }
    where
      S : Spread (a ++ b) s e q D.n
      S = spread B D.n

      N : ℕ → ℤ
      N = S.number

      at : (k : Place) → N (pick k q) ≡ pick k D.n
      at k = sym (pick_each N q k) ∙ ap (pick k) S.four

      none : (i : ℕ) → i < 6 → without (pick free q) left i ≡ false → N i ≡ pos 0
      none i h o = ⊎_elim (λ z. ap N z ∙ at free ∙ D.none)
          (none_out B.order p N S.remains (λ k z. at k ∙ D.out.out k (pick_each left q k ∙ z)) i h) (without_out (pick free q) left i o)

  module _ (h : (f : ℕ) → f < 3 → Vanish f (each left q) (differences_in (a ++ b) s e q)) where
    loose : (free : Place) → left (pick free q) ≡ true → Loose free
    loose free was =
        by_dependent (dependent_at (left q.v0) (left q.v1) (left q.v2) (left q.v3) (differences_in (a ++ b) s e q) h free (pick_each left q free ∙ was))

    a_corner : (free : Place) × (left (pick free q) ≡ true)
    a_corner =
        let (free, was) = some_left (left q.v0) (left q.v1) (left q.v2) (left q.v3) (differences_in (a ++ b) s e q) h in
        (free, sym (pick_each left q free) ∙ was)

    pub open_leaves : TouchIn a b left → Leaves a b left
    open_leaves t =
        let (free, was) = a_corner in
        let K = loose free was in
        leave t (pick free q) (there free) was
        (record { k = K.k; level = K.level; out = K.out; place = pick K.place q; there = there K.place; some = K.some })

    -- numbers that balance without one corner, and others without a corner at which the first are not 0, are not in one ratio
    pub open_not_one : ¬ AtMostOne a b left
    open_not_one one =
        let (free, was) = a_corner in
        let K = loose free was in
        go K (left (pick K.place q)) refl
      where
        allowed : {free : Place} (K : Loose free) → Allowed a b left K.k
        allowed {free} K = record { level = K.level; out = λ i x o. K.out i x (still_out (pick free q) left i o) }

        two : {free : Place} (K : Loose free) → Loose K.place → ⊥
        two K M =
            M.some
            (factor_zero (K.k (pick K.place q)) (M.k (pick M.place q))
            (one.ratio K.k M.k (allowed K) (allowed M) (pick K.place q) (pick M.place q) (there K.place) (there M.place)
            ∙ ap (λ z. K.k (pick M.place q) *ℤ z) (M.out (pick K.place q) (there K.place) (now_out (pick K.place q) left))
            ∙ *ℤ-zero (K.k (pick M.place q)))
            K.some)

        go : {free : Place} (K : Loose free) (c : Bool) → left (pick K.place q) ≡ c → ⊥
        go K true x = two K (loose K.place x)
        go {free} K false x = K.some ((allowed K).out (pick K.place q) (there K.place) x)
