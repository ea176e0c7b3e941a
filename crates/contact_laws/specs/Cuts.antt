-- A number that cuts a share of the determinants cuts the same share of every solution's weights.
use Rattle.std.specs.Prelude.{ℕ, zero, suc, ◌+◌, ◌*◌, ◌≤◌, ◌<◌, ◌≡◌, refl, ◌≢◌, ℤ, pos, negsuc, nat_abs, ◌*ℤ◌, ◌≤ℤ◌, ◌<ℤ◌}
use Rattle.std.proofs.Common.{sym, ap, ◌∙◌, subst, mul_comm, arith, le→leb, lt→ltb}
use Rattle.std.specs.Int.Signed.{le_z_yes, lt_z_yes}
use Rattle.whole.specs.Order.{P, M, le_parts, lt_parts, parts_le}
use Rattle.whole.specs.Signs.{nat_abs_mul, nat_abs_positive}
use Rattle.cutting.specs.Cut.{unit, CutTo, cut_again, cut_one}
use Rattle.meaning.specs.Contacts.{Cut}

-- over whole numbers that are not negative the two ways of saying it are one
pub cut_of : (s w n : ℕ) → CutTo s w n → Cut (pos s) (pos w) n
cut_of s w n c =
    record {
      not_above = le_z_yes (le→leb (n * w) (unit * s) c.not_above);
      short = lt_z_yes (lt→ltb (unit * s) ((n + 1) * w) c.near);
    }

pub of_cut : (s w n : ℕ) → Cut (pos s) (pos w) n → CutTo s w n
of_cut s w n c =
    let a : n * w + 0 ≤ unit * s + 0 = le_parts c.not_above in
    let b : unit * s + 0 < (n + 1) * w + 0 = lt_parts c.short in
    record { not_above = omega arith; near = omega arith }

-- P over D is the same share as S over W, and its number the same
pub in_sizes : (S W P D : ℤ) → S *ℤ D ≡ W *ℤ P → nat_abs P * nat_abs W ≡ nat_abs S * nat_abs D
in_sizes S W P D e =
    mul_comm (nat_abs P) (nat_abs W) ∙ sym (nat_abs_mul W P) ∙ ap nat_abs (sym e) ∙ nat_abs_mul S D

pub whole_number : (z : ℤ) → pos 0 ≤ℤ z → z ≡ pos (nat_abs z)
whole_number (pos n) h = refl
whole_number (negsuc n) h =
    let a : 0 + suc n ≤ 0 + 0 = le_parts h in
    absurd (omega arith)

pub positive_number : (z : ℤ) → pos 0 <ℤ z → 0 < nat_abs z
positive_number z h =
    let a : 0 + M z < P z + 0 = lt_parts h in
    nat_abs_positive z (λ e. absurd (nothing (rw e at h)))
  where
    nothing : pos 0 <ℤ pos 0 → ⊥
    nothing k =
        let b : 0 + 0 < 0 + 0 = lt_parts k in
        omega arith

pub not_below_lem : (z : ℤ) → pos 0 <ℤ z → pos 0 ≤ℤ z
not_below_lem z h =
    let a : 0 + M z < P z + 0 = lt_parts h in
    let b : 0 + M z ≤ P z + 0 = omega arith in
    parts_le b

pub cut_by_determinants : (S W P D : ℤ) (n : ℕ) → pos 0 ≤ℤ S → pos 0 <ℤ W → D ≢ pos 0 → S *ℤ D ≡ W *ℤ P → CutTo (nat_abs P) (nat_abs D) n → Cut S W n
cut_by_determinants S W P D n s w d e c =
    let k : CutTo (nat_abs S) (nat_abs W) n =
    cut_again (nat_abs P) (nat_abs D) (nat_abs S) (nat_abs W) n (nat_abs_positive D d) (positive_number W w) (in_sizes S W P D e) c
    in
    subst (λ (x : ℤ). Cut x W n) (sym (whole_number S s))
    (subst (λ (x : ℤ). Cut (pos (nat_abs S)) x n) (sym (whole_number W (not_below_lem W w))) (cut_of (nat_abs S) (nat_abs W) n k))

-- a number that is not negative is no larger in size than a larger one
pub size_rises : (S W : ℤ) → pos 0 ≤ℤ S → S ≤ℤ W → nat_abs S ≤ nat_abs W
size_rises (pos s) (pos w) h k =
    let a : s + 0 ≤ w + 0 = le_parts k in
    omega arith
size_rises (pos s) (negsuc w) h k =
    let a : s + suc w ≤ 0 + 0 = le_parts k in
    absurd (omega arith)
size_rises (negsuc s) W h k =
    let a : 0 + suc s ≤ 0 + 0 = le_parts h in
    absurd (omega arith)
