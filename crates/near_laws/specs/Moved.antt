-- Demand 3 of far pairs, as of culled ones: of two scenes of which one is the other sent through a matrix and shifted, a pair that is far in either is hit
-- and touched in neither. Which pairs are far may differ between the two.
use Rattle.std.specs.Prelude.{ℕ, true, ◌⊎◌, ◌≡◌}
use Rattle.std.proofs.Common.{inl, inr}
use Rattle.whole.specs.Vector.{Vector}
use Rattle.whole.specs.VectorLaws.{Matrix}
use Rattle.meaning.specs.Scene.{Scene}
use Rattle.meaning.specs.Near.{far}
use Rattle.meaning.specs.Verdicts.{PairIs}
use Rattle.meaning.specs.Resting.{PairSettled}
use Rattle.meaning.specs.declared.Kind.{Kind}
use Rattle.meaning.specs.declared.Settled as Words
use Rattle.meaning.specs.declared.Verdict.TheVariants.{Hit}
use Rattle.theory.specs.Moved.{Moves, Known}
use Rattle.theory.proofs.Moved.{moved_keeps_pairs, moved_keeps_pair_words}
use Rattle.near_laws.specs.Far.{far_never_hit, far_never_meets}

module _ {m : Matrix} {a b : Vector} {s t : Scene} (h : Moves m a b s t) (kind : Kind) (i j : ℕ) (known : Known s kind i j) where
  -- neither hit nor touch
  abbrev pub NeverMeets : Scene → Type 0
  NeverMeets u = ¬ PairSettled u kind i j Words.TheVariants.Hit × ¬ PairSettled u kind i j Words.TheVariants.Touch

  pub far_in_either_meets_in_neither : (far s kind i j ≡ true) ⊎ (far t kind i j ≡ true) → NeverMeets s × NeverMeets t
  far_in_either_meets_in_neither (inl f) =
      let n = far_never_meets s kind i j f in
      let back = moved_keeps_pair_words h kind i j known in
      (n, (λ p. n.0 ((back Words.TheVariants.Hit).1 p), λ p. n.1 ((back Words.TheVariants.Touch).1 p)))
  far_in_either_meets_in_neither (inr f) =
      let n = far_never_meets t kind i j f in
      let there = moved_keeps_pair_words h kind i j known in
      ((λ p. n.0 ((there Words.TheVariants.Hit).0 p), λ p. n.1 ((there Words.TheVariants.Touch).0 p)), n)

  pub far_in_either_hit_in_neither : (far s kind i j ≡ true) ⊎ (far t kind i j ≡ true) → ¬ PairIs s kind i j Hit × ¬ PairIs t kind i j Hit
  far_in_either_hit_in_neither (inl f) =
      (far_never_hit s kind i j f, λ p. far_never_hit s kind i j f ((moved_keeps_pairs h kind i j known Hit).1 p))
  far_in_either_hit_in_neither (inr f) =
      (λ p. far_never_hit t kind i j f ((moved_keeps_pairs h kind i j known Hit).0 p), far_never_hit t kind i j f)
