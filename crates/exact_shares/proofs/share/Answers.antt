-- A share: both sums are of volumes in range, so the part and the whole are their sizes.
use mathlib.Core.Path.{◌≡◌, ap, ◌∙◌}
use Prim.Native.Nat.{ℕ}
use lib.IntN.{ℤ, nat_abs}
use Rattle.whole.specs.Cramer.{Four}
use Rattle.whole.specs.Signs.{nat_abs_positive}
use Rattle.exact.specs.Volumes.{four_of, Holds, holds_same}
use Rattle.exact.specs.declared.Volumes.{Volumes}
use Rattle.exact_signs.specs.BySigns.{sum}
use Rattle.exact_shares.specs.InRange.{kept_in_range, sum_small}
use Rattle.exact_shares.proofs.share.Goals as goal

pub size_of_sum-part-requires : goal.size_of_sum-part-requires
size_of_sum-part-requires c = rw (holds_same c.keep_where.ensures) (kept_in_range c.requires.1 _)

pub size_of_sum-whole-requires : goal.size_of_sum-whole-requires
size_of_sum-whole-requires c = rw (holds_same c.keep_where-2.ensures) (kept_in_range c.requires.1 _)

-- the size of the sum of what was kept
size_is : {n : ℕ} {v : Volumes} {e : Four ℤ} → n ≡ nat_abs (sum (four_of v)) → Holds v e → n ≡ nat_abs (sum e)
size_is h k = h ∙ ap (λ (e : Four ℤ). nat_abs (sum e)) (holds_same k)

pub quick_cut-requires : goal.quick_cut-requires
quick_cut-requires c =
    let p = c.requires in
    rw (size_is c.size_of_sum-whole.ensures c.keep_where-2.ensures, size_is c.size_of_sum-part.ensures c.keep_where.ensures)
    (nat_abs_positive _ p.2.some, p.2.fits, sum_small (kept_in_range p.1 _))

pub returns : goal.returns
returns c =
    rw (size_is c.size_of_sum-whole.ensures c.keep_where-2.ensures, size_is c.size_of_sum-part.ensures c.keep_where.ensures)
    at c.quick_cut.ensures
