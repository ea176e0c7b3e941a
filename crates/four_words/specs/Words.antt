-- The word of a pair, from its verdict and from whether some piece touches.
use Rattle.std.specs.Prelude.{ℕ, ◌+◌, ◌≤◌, ◌<◌, ◌≡◌, ◌⊎◌, Bool}
use Rattle.std.proofs.Common.{eq-or-lt_of_le, lt_of_lt_of_le, not-suc-le-zero, arith, sym, ⊎_elim}
use Rattle.std.proofs.Math.Path.{subst}
use Rattle.std.proofs.Math.Bool.{true, false}
use Rattle.meaning.specs.Scene.{Scene}
use Rattle.meaning.specs.Pieces.{piece_of, piece_count}
use Rattle.meaning.specs.Verdicts.{SomePiece, PairIs}
use Rattle.meaning.specs.Resting.{PieceSettled, SomeSettled, PairSettled}
use Rattle.meaning.specs.declared.Kind.{Kind}
use Rattle.meaning.specs.declared.Verdict.{Verdict}
use Rattle.meaning.specs.declared.Settled.{Settled}
use Rattle.meaning.specs.declared.Settled.TheVariants.{Hit, Miss, Touch, Apart}
use Rattle.corner_search.specs.Decided.{some_hit}

-- the word of a pair that is not degenerate
unfoldable pub plain_word : Verdict → Settled
plain_word Verdict.Hit = Hit
plain_word Verdict.Miss = Miss
plain_word Verdict.Degenerate = Miss

module _ (s : Scene) (kind : Kind) (i j : ℕ) where
  -- whether some piece of the pair touches
  pub data TouchSaid : Bool → Type 0 where
    some : SomeSettled s kind i j Touch → TouchSaid true
    none : ¬ SomeSettled s kind i j Touch → TouchSaid false

  -- none of the pieces before k touches
  pub record NoneBefore (k : ℕ) : Type 0 where
    pub at : (m : ℕ) → m < k → ¬ PieceSettled (piece_of s kind i j m) Touch

module _ (s : Scene) (kind : Kind) (i j : ℕ) where
  pub none_before : NoneBefore s kind i j 0
  none_before = record { at = λ m h. absurd (not-suc-le-zero h) }

  pub one_more : {k : ℕ} → NoneBefore s kind i j k → ¬ PieceSettled (piece_of s kind i j k) Touch → NoneBefore s kind i j (k + 1)
  one_more {k} h n = record { at = λ m l. ⊎_elim (λ q. subst (λ m. ¬ PieceSettled (piece_of s kind i j m) Touch) (sym q) n) (h.at m) (split m l) }
    where
      split : (m : ℕ) → m < k + 1 → (m ≡ k) ⊎ (m < k)
      split m l = eq-or-lt_of_le (omega arith)

  module _ {n : ℕ} (c : n ≡ piece_count kind) where
    pub touch_found : (k : ℕ) → k < n → (k < piece_count kind → PieceSettled (piece_of s kind i j k) Touch) → TouchSaid s kind i j true
    touch_found k l p = let there = subst (λ m. k < m) c l in some (record { which = k; there = there; has = p there })

    pub none_found : (k : ℕ) → n ≤ k → NoneBefore s kind i j k → TouchSaid s kind i j false
    none_found k l h = none (λ t. h.at t.which (lt_of_lt_of_le t.there (subst (λ m. m ≤ k) c l)) t.has)

  -- ---- the word of a pair

  no_hit : ¬ SomePiece s kind i j Verdict.Hit → ¬ SomeSettled s kind i j Hit
  no_hit h t = h ((some_hit s kind i j).1 t)

  pub hit_stays : {v : Verdict} → v ≡ Verdict.Hit → PairIs s kind i j v → PairSettled s kind i j Hit
  unfolding PairIs PairSettled
  hit_stays e h = (some_hit s kind i j).0 (subst (PairIs s kind i j) e h)

  pub miss_stays : {v : Verdict} → v ≡ Verdict.Miss → PairIs s kind i j v → PairSettled s kind i j Miss
  unfolding PairIs PairSettled
  miss_stays e h = let t = subst (PairIs s kind i j) e h in (no_hit t.0, t.1)

  module _ {v : Verdict} {b : Bool} (e : v ≡ Verdict.Degenerate) (h : PairIs s kind i j v) (said : TouchSaid s kind i j b) where
    degenerate : PairIs s kind i j Verdict.Degenerate
    degenerate = subst (PairIs s kind i j) e h

    pub goes_to_touch : b ≡ true → PairSettled s kind i j Touch
    unfolding PairIs PairSettled
    goes_to_touch f = (no_hit degenerate.0, of (subst (TouchSaid s kind i j) f said))
      where
        of : TouchSaid s kind i j true → SomeSettled s kind i j Touch
        of (some t) = t

    pub goes_to_apart : b ≡ false → PairSettled s kind i j Apart
    unfolding PairIs PairSettled
    goes_to_apart f = (no_hit degenerate.0, of (subst (TouchSaid s kind i j) f said), degenerate.1)
      where
        of : TouchSaid s kind i j false → ¬ SomeSettled s kind i j Touch
        of (none t) = t
