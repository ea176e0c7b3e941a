-- The determinant of three vectors whose entries are at most D in size is at most 4 D^3, and not only 6 D^3: a size is a sign times the number,
-- so each row may be put in for by one of signs, D times as large; and the cross product of two rows of signs has sizes that sum to 4 at most.
use Rattle.std.specs.Prelude.{◌≡◌, refl, Bool, true, false, ◌&&◌, List, [], ◌∷◌, ℕ, zero, suc, ◌+◌, ◌*◌, ◌^◌, ◌≤◌, T, leb, ℤ, pos, negsuc, nat_abs, ◌+ℤ◌, ◌-ℤ◌, ◌*ℤ◌}
use Rattle.std.proofs.Common.{sym, ◌∙◌, ap, mul-le-mul_left, mul-le-mul_right, le_trans, pow-suc, one-mul, arith, leb→le}
use Rattle.std.proofs.Math.Nat.{pow-zero}
use Rattle.std.proofs.Math.Facts.{and_yes}
use Rattle.whole.specs.Laws.{*ℤ_idl}
use Rattle.whole.specs.Signs.{nat_abs_mul}
use Rattle.whole.specs.Sizes.{Within, nat_abs_add}
use Rattle.whole.specs.Quote.{ring, quotes}
use Rattle.whole.specs.Vector.{Vector, volume}
use Rattle.whole.specs.VectorLaws.{dot, cross, coordinates}
use Rattle.whole.proofs.VectorLaws.{cycle}
use Rattle.exact.specs.Places.{Short, vector}

-- ---- a size is a sign times the number

abbrev unit : Bool → ℤ
unit true = pos 1
unit false = negsuc 0

abbrev not_negative : ℤ → Bool
not_negative (pos n) = true
not_negative (negsuc n) = false

size_is : (z : ℤ) → unit (not_negative z) *ℤ z ≡ pos (nat_abs z)
size_is (pos n) = *ℤ_idl (pos n)
size_is (negsuc n) = ap pos (omega arith)

-- the sizes of a vector's entries, together
abbrev spread : Vector → ℕ
spread v = nat_abs v.x + nat_abs v.y + nat_abs v.z

abbrev signs : Bool → Bool → Bool → Vector
signs a b c = vector (unit a) (unit b) (unit c)

-- the row of signs that brings out the spread
abbrev signs_of : Vector → Vector
signs_of v = signs (not_negative v.x) (not_negative v.y) (not_negative v.z)

brings_out : (v : Vector) → nat_abs (dot (signs_of v) v) ≡ spread v
brings_out v = simp size_is

-- ---- a row of signs put in for a row

one_product : (D : ℕ) (a b : ℤ) → Within D a → nat_abs (a *ℤ b) ≤ D * nat_abs b
one_product D a b h = rw nat_abs_mul (mul-le-mul_right (nat_abs b) h.size)

at_most : (D : ℕ) (a v : Vector) → Short D a → nat_abs (dot a v) ≤ D * spread v
at_most D a v h =
    omega (
      arith,
      nat_abs_add (a.x *ℤ v.x +ℤ a.y *ℤ v.y) (a.z *ℤ v.z),
      nat_abs_add (a.x *ℤ v.x) (a.y *ℤ v.y),
      one_product D a.x v.x h.in_x,
      one_product D a.y v.y h.in_y,
      one_product D a.z v.z h.in_z,
    )

expanded : (a b c : Vector) → volume a b c ≡ dot a (cross b c)
unfolding volume
expanded a b c = ring (coordinates (a ∷ b ∷ c ∷ [])) (search quotes depth 40 fits 9000) refl

-- the first row gives way to one of signs, which then stands last
first_gives_way : (D : ℕ) (a b c : Vector) → Short D a → nat_abs (volume a b c) ≤ D * nat_abs (volume b c (signs_of (cross b c)))
first_gives_way D a b c h =
    rw (expanded a b c, ← cycle (signs_of (cross b c)) b c, expanded (signs_of (cross b c)) b c, brings_out (cross b c))
    (at_most D a (cross b c) h)

-- ---- two rows of signs

abbrev every : (Bool → Bool) → Bool
every f = f true && f false

every_is : (f : Bool → Bool) → T (every f) → (b : Bool) → T (f b)
every_is f t true = (and_yes (f true) (f false) t).0
every_is f t false = (and_yes (f true) (f false) t).1

abbrev four_at_most : Bool → Bool → Bool → Bool → Bool → Bool → Bool
four_at_most a b c d e f = leb (spread (cross (signs a b c) (signs d e f))) 4

-- all 64 of them by one computation
two_of_signs : (a b c d e f : Bool) → spread (cross (signs a b c) (signs d e f)) ≤ 4
two_of_signs a b c d e f =
    leb→le _ _
    (every_is (λ f. four_at_most a b c d e f)
    (every_is (λ e. every (λ f. four_at_most a b c d e f))
    (every_is (λ d. every (λ e. every (λ f. four_at_most a b c d e f)))
    (every_is (λ c. every (λ d. every (λ e. every (λ f. four_at_most a b c d e f))))
    (every_is (λ b. every (λ c. every (λ d. every (λ e. every (λ f. four_at_most a b c d e f)))))
    (every_is (λ a. every (λ b. every (λ c. every (λ d. every (λ e. every (λ f. four_at_most a b c d e f)))))) tt
    a) b) c) d) e) f)

four_of_signs : (u v : Vector) → spread (cross (signs_of u) (signs_of v)) ≤ 4
four_of_signs u v =
    two_of_signs (not_negative u.x) (not_negative u.y) (not_negative u.z) (not_negative v.x) (not_negative v.y) (not_negative v.z)

-- ---- the bound

pub largest : (D : ℕ) {a b c : Vector} → Short D a → Short D b → Short D c → Within (4 * D ^ 3) (volume a b c)
largest D {a} {b} {c} p q r =
    let s : Vector = signs_of (cross b c) in
    let t : Vector = signs_of (cross c s) in
    let last : nat_abs (volume c s t) ≤ D * spread (cross s t) = rw (expanded c s t) (at_most D c (cross s t) r) in
    let four : spread (cross s t) ≤ 4 = four_of_signs (cross b c) (cross c s) in
    let second : nat_abs (volume b c s) ≤ D * (D * 4) = le_trans (first_gives_way D b c s q) (mul-le-mul_left D (le_trans last (mul-le-mul_left D four))) in
    record { size = le_trans (first_gives_way D a b c p) (le_trans (mul-le-mul_left D second) (cubed D)) }
  where
    cubed : (D : ℕ) → D * (D * (D * 4)) ≤ 4 * D ^ 3
    cubed D = let e : D ^ 3 ≡ D * D * D = rw (pow-suc, pow-suc, pow-suc, pow-zero, one-mul) in omega (arith, e)
