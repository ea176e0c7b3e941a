-- The verdict by signs of numbers that are held.
use mathlib.Core.Path.{◌≡◌}
use mathlib.Core.List.{[], ◌∷◌}
use lib.IntN.{ℤ}
use mir.Syntax.{w64}
use Rattle.whole.specs.Sizes.{Is, held}
use Rattle.whole.proofs.Sizes.{back}
use Rattle.exact.specs.Limits.{determinant_limit}
use Rattle.exact_signs.specs.declared.Signs.{Signs}
use Rattle.exact_signs.specs.BySigns.{signs_of}
use Rattle.exact_signs.specs.OneSign.{one_sign}

abbrev pub IsVolume : ℤ → ℤ → Type 0
IsVolume = Is determinant_limit

pub same_signs : {r : Signs} {d a b c e f d' a' b' c' e' f' : ℤ} → d ≡ d' → IsVolume a a' → IsVolume b b' → IsVolume c c' → IsVolume e e' → f ≡ f' → r ≡ signs_of (one_sign d (held w64 a ∷ held w64 b ∷ held w64 c ∷ held w64 e ∷ f ∷ [])) → r ≡ signs_of (one_sign d' (a' ∷ b' ∷ c' ∷ e' ∷ f' ∷ []))
same_signs p q r s t u h =
    rw (p, (back w64 q tt).same, (back w64 r tt).same, (back w64 s tt).same, (back w64 t tt).same, u) at h
