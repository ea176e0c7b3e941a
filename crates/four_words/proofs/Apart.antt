-- What a verdict taken apart by `let else` says of its pair: a plain one stays, and only a degenerate one goes on.
use Rattle.std.proofs.Common.{◌≡◌, refl, ℕ}
use Rattle.std.proofs.Math.Path.{subst}
use Rattle.meaning.specs.Scene.{Scene}
use Rattle.meaning.specs.Verdicts.{PairIs}
use Rattle.meaning.specs.Resting.{PairSettled}
use Rattle.meaning.specs.declared.Kind.{Kind}
use Rattle.meaning.specs.declared.Verdict.{Verdict}
use Rattle.meaning.specs.declared.Verdict.TheVariants.{Hit, Miss, Degenerate}
use Rattle.four_words.specs.Words.{plain_word, hit_stays, miss_stays}

module _ (s : Scene) (kind : Kind) (i j : ℕ) where
  pub plain_stays : (v : Verdict) → PairIs s kind i j v → (v ≡ Degenerate → ⊥) → PairSettled s kind i j (plain_word v)
  unfolding plain_word
  plain_stays Hit h k = hit_stays s kind i j refl h
  plain_stays Miss h k = miss_stays s kind i j refl h
  plain_stays Degenerate h k = absurd (k refl)

  pub only_singular : (v : Verdict) → PairIs s kind i j v → v ≡ Degenerate → PairIs s kind i j Degenerate
  only_singular v h e = subst (PairIs s kind i j) e h
