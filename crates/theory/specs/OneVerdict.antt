-- Each piece has exactly one verdict, and so has each pair.
use Rattle.std.specs.Prelude.{◌≡◌, refl, ℕ, ◌<◌}
use Rattle.meaning.specs.Scene.{Scene}
use Rattle.meaning.specs.Pieces.{Piece}
use Rattle.meaning.specs.Verdicts.{PieceIs, PairIs}
use Rattle.meaning.specs.declared.Kind.{Kind}
use Rattle.meaning.specs.declared.Verdict.{Verdict}
use Rattle.meaning.specs.declared.Verdict.TheVariants.{Hit, Miss, Degenerate}

pub one_piece_verdict : (p : Piece) (v w : Verdict) → PieceIs p v → PieceIs p w → v ≡ w
unfolding PieceIs
one_piece_verdict p Hit Hit h k = refl
one_piece_verdict p Hit Miss h k = absurd (k.1 h.1)
one_piece_verdict p Hit Degenerate h k = absurd (h.0 k)
one_piece_verdict p Miss Hit h k = absurd (h.1 k.1)
one_piece_verdict p Miss Miss h k = refl
one_piece_verdict p Miss Degenerate h k = absurd (h.0 k)
one_piece_verdict p Degenerate Hit h k = absurd (k.0 h)
one_piece_verdict p Degenerate Miss h k = absurd (k.0 h)
one_piece_verdict p Degenerate Degenerate h k = refl

pub one_pair_verdict : (s : Scene) (kind : Kind) (i j : ℕ) (v w : Verdict) → PairIs s kind i j v → PairIs s kind i j w → v ≡ w
unfolding PairIs
one_pair_verdict s kind i j Hit Hit h k = refl
one_pair_verdict s kind i j Hit Miss h k = absurd (k.0 h)
one_pair_verdict s kind i j Hit Degenerate h k = absurd (k.0 h)
one_pair_verdict s kind i j Miss Hit h k = absurd (h.0 k)
one_pair_verdict s kind i j Miss Miss h k = refl
one_pair_verdict s kind i j Miss Degenerate h k = absurd (h.1 k.1)
one_pair_verdict s kind i j Degenerate Hit h k = absurd (h.0 k)
one_pair_verdict s kind i j Degenerate Miss h k = absurd (k.1 h.1)
one_pair_verdict s kind i j Degenerate Degenerate h k = refl

-- ---- the verdict of a pair joins those of its pieces

-- some number below n has the verdict
pub record SomeBelow (n : ℕ) (f : ℕ → Verdict) (v : Verdict) : Type 0 where
  pub which : ℕ
  pub there : which < n
  pub has : v ≡ f which
