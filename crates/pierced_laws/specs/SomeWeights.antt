-- Weights in some piece of a pair, singular or not: the pair's word is then hit or touch, and only then.
use Rattle.std.specs.Prelude.{ℕ, ◌<◌, ◌↔◌, ◌⊎◌}
use Rattle.std.proofs.Common.{arith, ⊎_elim}
use Rattle.std.proofs.Math.Path.{◌≡◌, refl}
use Rattle.std.proofs.Math.Logic.{inl, inr}
use Rattle.meaning.specs.Scene.{Scene}
use Rattle.meaning.specs.Pieces.{piece_of, piece_count}
use Rattle.meaning.specs.Equations.{determinant_of, Touches}
use Rattle.meaning.specs.Verdicts.{PieceIs}
use Rattle.meaning.specs.Resting.{PieceSettled, PairSettled}
use Rattle.meaning.specs.declared.Kind.{Kind}
use Rattle.meaning.specs.declared.Settled.{Settled}
use Rattle.meaning.specs.declared.Settled.TheVariants.{Hit, Miss, Touch, Apart}
use Rattle.corner_laws.specs.Flat.{zero_or}

pub record SomeTouches (s : Scene) (kind : Kind) (i j : ℕ) : Type 0 where
  pub which : ℕ
  pub there : which < piece_count kind
  pub has : Touches (piece_of s kind i j which)

module _ (s : Scene) (kind : Kind) (i j : ℕ) where
  word_touches : (w : Settled) → PairSettled s kind i j w → SomeTouches s kind i j → (w ≡ Hit) ⊎ (w ≡ Touch)
  unfolding PairSettled PieceSettled PieceIs
  word_touches Hit h t = inl refl
  word_touches Touch h t = inr refl
  word_touches Miss h t = absurd (⊎_elim
      (λ z. h.1 (record { which = t.which; there = t.there; has = z }))
      (λ n. h.0 (record { which = t.which; there = t.there; has = (n, t.has) }))
      (zero_or (determinant_of (piece_of s kind i j t.which))))
  word_touches Apart h t = absurd (⊎_elim
      (λ z. h.1 (record { which = t.which; there = t.there; has = (z, t.has) }))
      (λ n. h.0 (record { which = t.which; there = t.there; has = (n, t.has) }))
      (zero_or (determinant_of (piece_of s kind i j t.which))))

  touches_word : (w : Settled) → PairSettled s kind i j w → (w ≡ Hit) ⊎ (w ≡ Touch) → SomeTouches s kind i j
  unfolding PairSettled PieceSettled PieceIs
  touches_word Hit h e = record { which = h.which; there = h.there; has = h.has.1 }
  touches_word Touch h e = record { which = h.1.which; there = h.1.there; has = h.1.has.1 }
  touches_word Miss h (inl e) = let z : ◌≡◌ {A = ℕ} 0 1 = cc in absurd (omega arith)
  touches_word Miss h (inr e) = let z : ◌≡◌ {A = ℕ} 0 1 = cc in absurd (omega arith)
  touches_word Apart h (inl e) = let z : ◌≡◌ {A = ℕ} 0 1 = cc in absurd (omega arith)
  touches_word Apart h (inr e) = let z : ◌≡◌ {A = ℕ} 0 1 = cc in absurd (omega arith)

  pub hit_or_touch : (w : Settled) → PairSettled s kind i j w → SomeTouches s kind i j ↔ (w ≡ Hit) ⊎ (w ≡ Touch)
  hit_or_touch w h = (word_touches w h, touches_word w h)
