-- A coordinate as the machine holds it: a size within the limit, and its negative.
use Rattle.std.specs.Prelude.{◌≡◌, ℕ, zero, suc, ◌≤◌, ◌<◌, ◌^◌, ℤ, pos, neg_ℤ, ◌-ℤ◌}
use Rattle.std.proofs.Common.{ap, ◌∙◌, arith, to_z-of_z}
use Rattle.std.proofs.Math.IntN.{+ℤ_idl}
use Rattle.std.specs.Int.Signed.{mag}
use Rattle.std.specs.Int.{w32}
use mir.Val.{SFits, to_z, of_z, hbits}
use Rattle.std.proofs.Math.Facts.{to_z_pos, sfits_lit}
use borrow.Author.Rules.{sfits_of}
use Rattle.meaning.specs.Limits.{coordinate_limit}

pub held : (n : ℕ) → n ≤ coordinate_limit → to_z w32 n ≡ pos n
held n h = to_z_pos w32 {n = n} (omega arith)

pub turned : (n : ℕ) → n ≤ coordinate_limit → pos 0 -ℤ to_z w32 n ≡ neg_ℤ (pos n)
turned n h = ap (λ (z : ℤ). pos 0 -ℤ z) (held n h) ∙ +ℤ_idl (neg_ℤ (pos n))

pub turned_fits : (n : ℕ) → n ≤ coordinate_limit → SFits w32 (neg_ℤ (pos n))
turned_fits zero h = sfits_lit tt
turned_fits (suc n) h = record { sfits = omega arith }

-- a signed number is held in bits, and reading them gives it back
pub stored : {r z : ℤ} → r ≡ z → mag r < 2 ^ hbits w32 → to_z w32 (of_z w32 r) ≡ z
stored e f = to_z-of_z {w = w32} (sfits_of f) ∙ e
