-- Numbers of one sign: those of four corners and of two bases, one at the start and one at the end. A base has minus the sum over the corners
-- of its time. The first simplex's numbers count as they are, and the second's with the other sign.
use Rattle.std.specs.Prelude.{Bool, not, cond, ◌&&◌, ◌||◌, ℤ, pos}
use Rattle.std.specs.Int.Signed.{le_z}
use Rattle.whole.specs.Cramer.{Four, each}
use Rattle.whole.specs.Signs.{sgn, is_nought}
use Rattle.exact_signs.specs.BySigns.{sum, kept}

-- not below 0, or not above it
abbrev pub not_below : Bool → ℤ → Bool
not_below up z = cond up (le_z (pos 0) z) (le_z z (pos 0))

-- `first` says which corners are in the first simplex, `s` and `e` whether the bases are; the sums stand for the bases with the other sign
abbrev pub all_not_below : Four Bool → Bool → Bool → Four ℤ → ℤ → ℤ → Bool
all_not_below first s e n starts ends =
    not_below first.v0 n.v0 && not_below first.v1 n.v1 && not_below first.v2 n.v2 && not_below first.v3 n.v3
    && not_below (not s) starts
    && not_below (not e) ends

-- none below 0, or none above it; `ends` says which of the four are at the end
unfoldable pub one_way : Four Bool → Four Bool → Bool → Bool → Four ℤ → Bool
one_way ends first s e n =
    all_not_below first s e n (sum (kept (each not ends) n)) (sum (kept ends n))
    || all_not_below (each not first) (not s) (not e) n (sum (kept (each not ends) n)) (sum (kept ends n))

abbrev pub is_zero : ℤ → Bool
is_zero z = le_z z (pos 0) && le_z (pos 0) z

-- those that do not count are 0
abbrev pub zero_but : Four Bool → Four ℤ → Bool
zero_but counts n =
    (counts.v0 || is_zero n.v0) && (counts.v1 || is_zero n.v1) && (counts.v2 || is_zero n.v2) && (counts.v3 || is_zero n.v3)
