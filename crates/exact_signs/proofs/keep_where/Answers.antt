-- The volumes that count: each is a volume or 0, so its bound is a volume's.
use borrow.Author.Rules.{rules}
use mathlib.Core.Path.{◌≡◌, ◌∙◌, ap}
use mathlib.Core.Bool.{Bool, true, false}
use lib.IntN.{ℤ}
use lib.Dec.{lit≤}
use mir.Syntax.{w64}
use Rattle.whole.specs.Sizes.{Within, Is, held}
use Rattle.whole.proofs.Sizes.{back}
use Rattle.exact.specs.Limits.{determinant_limit}
use Rattle.exact_signs.specs.BySigns.{keep}
use Rattle.exact_signs.proofs.keep_where.Goals as goal

keep-small : (t : Bool) {e : ℤ} → Within determinant_limit e → Within determinant_limit (keep t e)
unfolding keep
keep-small true h = h
keep-small false h = record { size = lit≤ tt }

kept_is : {r u e : ℤ} (t : Bool) → r ≡ keep t (held w64 u) → Is determinant_limit u e → Is determinant_limit (held w64 r) (keep t e)
kept_is t p h = back w64 (record { same = p ∙ ap (keep t) (back w64 h tt).same; within = keep-small t h.within }) tt

pub returns : goal.returns
returns c =
    let p = c.requires in
    record {
      is0 = kept_is _ c.keep_if-e0.ensures p.is0;
      is1 = kept_is _ c.keep_if-e1.ensures p.is1;
      is2 = kept_is _ c.keep_if-e2.ensures p.is2;
      is3 = kept_is _ c.keep_if-e3.ensures p.is3;
    }
