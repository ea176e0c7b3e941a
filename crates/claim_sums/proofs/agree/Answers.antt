use mathlib.Core.Path.{refl}
use Prim.Native.Nat.{zero-le}
use native.Mathlib.Nat.{le_refl}
use mir.Syntax.{w64}
use Rattle.whole.proofs.Sizes.{back}
use Rattle.claim_sums.specs.Sums.{agrees}
use Rattle.claim_sums.proofs.agree.Goals as goal

pub side-first-requires : goal.side-first-requires
unfolding agrees
side-first-requires c = (c.requires.0, c.requires.1, zero-le, c.requires.0.timed.split)

pub side-second-requires : goal.side-second-requires
unfolding agrees
side-second-requires c = let p = c.requires in (p.0, p.1, p.0.timed.split, le_refl 6)

pub returns : goal.returns
unfolding agrees
returns c = rw ((back w64 c.side-second.ensures tt).same, (back w64 c.side-first.ensures tt).same) refl
