-- A scene without seams: each vertex stands for itself, so vertices are ordered by their numbers.
use Rattle.std.specs.Prelude.{ℕ, ◌<◌, ◌≡◌}
use mathlib.Core.List.{List, []}
use Rattle.std.proofs.Common.{sym, subst₂}
use Rattle.std.proofs.Math.Path.{ap}
use Rattle.meaning.specs.Scene.{Scene, counts_as, stood_for}
use Rattle.theory.specs.Written.{Lower}

module _ (s : Scene) (unsewn : s.seams ≡ []) where
  pub counts_itself : (v : ℕ) → counts_as s v ≡ v
  unfolding stood_for
  counts_itself v = ap (λ (w : List ℕ). stood_for w v) unsewn

  pub as_numbered : (a b : ℕ) → Lower s a b → a < b
  as_numbered a b = subst₂ (λ x y. x < y) (counts_itself a) (counts_itself b)

  pub numbered_so : (a b : ℕ) → a < b → Lower s a b
  numbered_so a b = subst₂ (λ x y. x < y) (sym (counts_itself a)) (sym (counts_itself b))
