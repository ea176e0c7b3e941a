-- Ten nudges that are in general position: so anything is, once it is blown up by 10,000 or more and nudged by them.
use Rattle.std.specs.Prelude.{ℕ, ◌≤◌, ℤ, pos, negsuc}
use Rattle.std.proofs.Math.Path.{refl}
use Rattle.whole.specs.Vector.{Vector, volume}
use Rattle.meaning.specs.Pieces.{Event}
use Rattle.theory.specs.Differences.{at_start, at_end}
use Rattle.clean_laws.specs.Borders.{all}
use Rattle.clean_laws.specs.Columns.{Nudged}
use Rattle.clean_laws.specs.SixCells.{General, all_but_two, all_but_two_three, all_but_none_six, all_but_none}
use Rattle.clean_laws.specs.Congruent.{blown_to, no_two_small, general_cong}

abbrev vector : ℤ → ℤ → ℤ → Vector
vector x y z = record { x = x; y = y; z = z }

-- of the ends a and b and of the corners 1, 2 and 3, at the start and at the end
abbrev pub qa : Vector
qa = vector (pos 1) (pos 0) (pos 0)

abbrev pub qa' : Vector
qa' = vector (pos 0) (pos 1) (pos 0)

abbrev pub qb : Vector
qb = vector (negsuc 0) (pos 1) (pos 1)

abbrev pub qb' : Vector
qb' = vector (pos 0) (pos 0) (negsuc 0)

abbrev pub q₁ : Vector
q₁ = vector (pos 0) (pos 1) (negsuc 0)

abbrev pub q₁' : Vector
q₁' = vector (pos 1) (pos 1) (negsuc 0)

abbrev pub q₂ : Vector
q₂ = vector (pos 0) (negsuc 0) (pos 0)

abbrev pub q₂' : Vector
q₂' = vector (pos 0) (negsuc 0) (negsuc 0)

abbrev pub q₃ : Vector
q₃ = vector (negsuc 0) (negsuc 0) (pos 0)

abbrev pub q₃' : Vector
q₃' = vector (pos 1) (pos 1) (pos 1)

abbrev pub by : Event → Vector → Nudged
by e q = record { event = e; by = q }

abbrev pub far_enough : ℕ
far_enough = 10_000

module _ (a a' b b' c₁ c₁' c₂ c₂' c₃ c₃' : Vector) (n : ℕ) (most : far_enough ≤ n) where
  pub nudged_general : General (blown_to (pos n) a qa) (blown_to (pos n) a' qa') (blown_to (pos n) b qb) (blown_to (pos n) b' qb') (blown_to (pos n) c₁ q₁) (blown_to (pos n) c₁' q₁') (blown_to (pos n) c₂ q₂) (blown_to (pos n) c₂' q₂') (blown_to (pos n) c₃ q₃) (blown_to (pos n) c₃' q₃')
  unfolding no_two_small all volume
  nudged_general = record {
    A0 = general_cong n far_enough most a qa b' qb' (by (at_start b) qb) (by (at_start c₁) q₁) (by (at_start c₂) q₂) (by (at_start c₃) q₃) (by (at_end c₃') q₃') all_but_two refl refl;
    A1 = general_cong n far_enough most a qa b' qb' (by (at_start b) qb) (by (at_start c₁) q₁) (by (at_start c₂) q₂) (by (at_end c₂') q₂') (by (at_end c₃') q₃') all_but_two refl refl;
    A2 = general_cong n far_enough most a qa b' qb' (by (at_start b) qb) (by (at_start c₁) q₁) (by (at_end c₁') q₁') (by (at_end c₂') q₂') (by (at_end c₃') q₃') all_but_two_three refl refl;
    B0 = general_cong n far_enough most a qa b' qb' (by (at_end a') qa') (by (at_start c₁) q₁) (by (at_start c₂) q₂) (by (at_start c₃) q₃) (by (at_end c₃') q₃') all_but_none_six refl refl;
    B1 = general_cong n far_enough most a qa b' qb' (by (at_end a') qa') (by (at_start c₁) q₁) (by (at_start c₂) q₂) (by (at_end c₂') q₂') (by (at_end c₃') q₃') all_but_none refl refl;
    B2 = general_cong n far_enough most a qa b' qb' (by (at_end a') qa') (by (at_start c₁) q₁) (by (at_end c₁') q₁') (by (at_end c₂') q₂') (by (at_end c₃') q₃') all_but_none refl refl;
  }
