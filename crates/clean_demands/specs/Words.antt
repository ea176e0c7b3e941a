-- In words: a pair touches in some piece, singular or not, exactly where its word is hit or touch. So where the words of the two pt pairs and of the
-- three ee pairs are miss or apart, the hypotheses hold.
use Rattle.std.specs.Prelude.{ℕ, ◌≡◌, refl, ◌↔◌, ◌⊎◌}
use Rattle.std.proofs.Common.{arith, inl, inr, ⊎_elim}
use Rattle.meaning.specs.Scene.{Scene, edge_end}
use Rattle.meaning.specs.Pieces.{piece_of}
use Rattle.meaning.specs.Equations.{Touches}
use Rattle.meaning.specs.Resting.{SomeSettled, PieceSettled, PairSettled}
use Rattle.meaning.specs.declared.Kind.{Kind}
use Rattle.meaning.specs.declared.Kind.TheVariants.{PointTriangle, EdgeEdge}
use Rattle.meaning.specs.declared.Settled.{Settled}
use Rattle.meaning.specs.declared.Settled.TheVariants.{Hit, Miss, Touch, Apart}
use Rattle.theory.specs.Rational.{touch_rational}
use Rattle.corner_search.specs.Decided.{pair_word, settled_pair}
use Rattle.pierced_laws.specs.SomeWeights.{SomeTouches, hit_or_touch}
use Rattle.demands.specs.Demand2.{demand2_verdicts}

module _ (s : Scene) (kind : Kind) (i j : ℕ) where
  -- the pair's word is neither hit nor touch
  pub record Untroubled : Type 0 where
    pub not_hit : ¬ PairSettled s kind i j Hit
    pub not_touch : ¬ PairSettled s kind i j Touch

  pub untroubled_touches_not : Untroubled ↔ ¬ SomeTouches s kind i j
  untroubled_touches_not = (there (pair_word s kind i j) (settled_pair s kind i j), back)
    where
      there : (w : Settled) → PairSettled s kind i j w → Untroubled → ¬ SomeTouches s kind i j
      there Hit h u t = u.not_hit h
      there Touch h u t = u.not_touch h
      there Miss h u t = ⊎_elim (λ e. let z : ◌≡◌ {A = ℕ} 0 1 = cc in omega arith) (λ e. let z : ◌≡◌ {A = ℕ} 0 1 = cc in omega arith) ((hit_or_touch s kind i j Miss h).0 t)
      there Apart h u t = ⊎_elim (λ e. let z : ◌≡◌ {A = ℕ} 0 1 = cc in omega arith) (λ e. let z : ◌≡◌ {A = ℕ} 0 1 = cc in omega arith) ((hit_or_touch s kind i j Apart h).0 t)

      back : ¬ SomeTouches s kind i j → Untroubled
      back n = record { not_hit = λ h. n ((hit_or_touch s kind i j Hit h).1 (inl refl)); not_touch = λ h. n ((hit_or_touch s kind i j Touch h).1 (inr refl)) }

  -- a word that is given settles it
  pub miss_or_apart : (w : Settled) → PairSettled s kind i j w → (w ≡ Miss) ⊎ (w ≡ Apart) → ¬ SomeTouches s kind i j
  miss_or_apart w h m t = ⊎_elim (λ a. ⊎_elim (λ b. let z : ◌≡◌ {A = ℕ} 0 1 = cc in omega arith) (λ b. let z : ◌≡◌ {A = ℕ} 0 1 = cc in omega arith) m) (λ a. ⊎_elim (λ b. let z : ◌≡◌ {A = ℕ} 0 1 = cc in omega arith) (λ b. let z : ◌≡◌ {A = ℕ} 0 1 = cc in omega arith) m) ((hit_or_touch s kind i j w h).0 t)

  -- piece by piece: some piece touches exactly where the word of some piece is hit or touch
  pub some_piece : SomeTouches s kind i j ↔ (SomeSettled s kind i j Hit ⊎ SomeSettled s kind i j Touch)
  some_piece = (there, back)
    where
      there : SomeTouches s kind i j → SomeSettled s kind i j Hit ⊎ SomeSettled s kind i j Touch
      there t =
          ⊎_elim (λ h. inl (record { which = t.which; there = t.there; has = h })) (λ h. inr (record { which = t.which; there = t.there; has = h }))
          (((demand2_verdicts s kind i j).pieces t.which).weights.0 ((touch_rational (piece_of s kind i j t.which).first (piece_of s kind i j t.which).second).0 t.has))

      with_weights : (k : ℕ) → PieceSettled (piece_of s kind i j k) Hit ⊎ PieceSettled (piece_of s kind i j k) Touch → Touches (piece_of s kind i j k)
      with_weights k h = (touch_rational (piece_of s kind i j k).first (piece_of s kind i j k).second).1 (((demand2_verdicts s kind i j).pieces k).weights.1 h)

      back : SomeSettled s kind i j Hit ⊎ SomeSettled s kind i j Touch → SomeTouches s kind i j
      back (inl h) = record { which = h.which; there = h.there; has = with_weights h.which (inl h.has) }
      back (inr h) = record { which = h.which; there = h.there; has = with_weights h.which (inr h.has) }

-- the five words
pub record FiveUntroubled (s : Scene) (i j x y z : ℕ) : Type 0 where
  pub first_end : Untroubled s PointTriangle (edge_end s i 0) j
  pub second_end : Untroubled s PointTriangle (edge_end s i 1) j
  pub first_side : Untroubled s EdgeEdge i x
  pub second_side : Untroubled s EdgeEdge i y
  pub third_side : Untroubled s EdgeEdge i z
