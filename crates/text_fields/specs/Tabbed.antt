-- Rows of a text whose fields are parted by a tab and whose lines end with LF, and the sizes of a row's numbers in front of a buffer.
use Rattle.std.specs.Prelude.{List, [], ◌∷◌, map, ◌≡◌, refl, ℕ, suc, ◌<◌, ℤ, pos, nat_abs, length, get_or, take}
use Rattle.std.proofs.Common.{sym, ap, ◌∙◌, arith, get_or-take}
use Rattle.std.proofs.Math.Nat.{suc_inj}
use Rattle.std.proofs.Math.ListN.{get_or-map}
use Rattle.decimals.specs.Byte.{IsDigit}
use Rattle.meaning.specs.Text.{tab, line_feed}
use Rattle.text_fields.specs.Numerals.{Ends}

pub tab_parts : ¬ IsDigit tab
tab_parts d = omega (arith, d.low)

pub line_ends : (x : List ℕ) → Ends (line_feed ∷ x)
unfolding Ends
line_ends x d = omega (arith, d.low)

-- the sizes of the numbers are in front of the list
abbrev pub SizedAs : List ℤ → List ℕ → Type 0
SizedAs zs l = take (length zs) l ≡ map nat_abs zs

pub sized_at : (zs : List ℤ) (l : List ℕ) (i : ℕ) → SizedAs zs l → i < length zs → get_or l i 0 ≡ nat_abs (get_or zs i (pos 0))
sized_at zs l i e h = sym (get_or-take (length zs) l i 0 h) ∙ ap (λ (k : List ℕ). get_or k i 0) e ∙ get_or-map nat_abs zs i (pos 0)

-- the first of some numbers, and the rest
pub first_of : (zs : List ℤ) (n : ℕ) → length zs ≡ suc n → (z : ℤ) × (ws : List ℤ) × (zs ≡ z ∷ ws) × (length ws ≡ n)
first_of [] n e = absurd (omega arith)
first_of (z ∷ zs) n e = (z, zs, refl, suc_inj e)
