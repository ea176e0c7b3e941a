-- A weight is at most 2^40 and what its point has is at most a coordinate's limit: the product fits 64 bits.
use Prim.Native.Nat.{ℕ, ◌<◌}
use mathlib.Core.List.{List}
use lib.IntN.{pos}
use mir.Syntax.{w64}
use mir.Val.{to_z}
use Rattle.whole.specs.Sizes.{Is, is_exact}
use Rattle.whole.proofs.Sizes.{is_mul, fits, back}
use Rattle.meaning.specs.Limits.{weight_limit}
use Rattle.meaning.specs.Claims.{weight_at}
use Rattle.claim_sums.specs.Sums.{Light}
use Rattle.claim_sums.proofs.share.Goals as goal

module _ {ws : List ℕ} (h : Light ws) (i : ℕ) (k : i < 6) where
  weight : Is weight_limit (pos (weight_at ws i)) (pos (weight_at ws i))
  weight = is_exact (record { size = h.at i k })

  weighs : Is weight_limit (to_z w64 (weight_at ws i)) (pos (weight_at ws i))
  weighs = back w64 weight tt

pub overflow_cast-result : goal.overflow_cast-result
overflow_cast-result c = fits w64 (weight c.requires.1 c.args.i c.requires.2) tt

pub reading-requires : goal.reading-requires
reading-requires c = let p = c.requires in (p.0.room _ p.2, p.0.bounded)

pub overflow_mul-result : goal.overflow_mul-result
overflow_mul-result c = let p = c.requires in fits w64 (is_mul (weighs p.1 _ p.2) (back w64 c.reading.ensures tt)) tt

pub returns : goal.returns
returns c = let p = c.requires in back w64 (is_mul (weighs p.1 _ p.2) (back w64 c.reading.ensures tt)) tt
