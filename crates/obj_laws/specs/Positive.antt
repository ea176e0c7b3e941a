-- The numbers of a face are positive: none begins with a zero.
use Rattle.std.specs.Prelude.{Bool, true, false, ◌&&◌, List, [], ◌∷◌, ◌≡◌, refl, ℕ, suc, ◌+◌, ◌-◌, ◌*◌, ◌≤◌, ◌<◌, leb, ltb, eqb, length, drop, None, Option, Some}
use Rattle.std.proofs.Common.{⊎_elim, sym, ap, ◌∙◌, arith, ltb-true}
use Rattle.std.proofs.lemmas.Bool.{eqb-false}
use Rattle.sequences.specs.Pick.{pick, pick_gave, both}
use Rattle.decimals.specs.Byte.{byte_at, IsDigit, digit_test, digit_passed}
use Rattle.decimals.specs.Value.{value, value_on}
use Rattle.meaning.specs.Limits.{digit_limit}
use Rattle.meaning.specs.ObjLine.{digits_alone, whole_of, vertex_number_of, zero_digit, face_with, vertex_with, vertex_of, face_of, first_field, second_field, third_field, says, is_skipped, begins_with, space, decimal_of}
use Rattle.meaning.specs.declared.ObjLine.{ObjLine}
use Rattle.meaning.specs.declared.ObjLine.TheVariants.{Skipped, Vertex, Face, Bad}
use Rattle.obj_records.specs.Adding.{Positive}
use Rattle.meaning.specs.declared.Hundredths.{Hundredths}

on_from : (v : ℕ) (l : List ℕ) → v ≤ value_on v l
unfolding value_on
on_from v [] = omega arith
on_from v (b ∷ l) = omega (arith, on_from (v * 10 + (b - 48)) l)

value_some : (l : List ℕ) → 0 < length l → digits_alone l ≡ true → eqb (byte_at l 0) zero_digit ≡ false → 0 < value l
unfolding value value_on digits_alone
value_some [] h e z = absurd (omega arith)
value_some (b ∷ l) h e z =
    let (t, rest) = both (digit_test b) (digits_alone l) e in
    let d : IsDigit b = digit_passed b t in
    let other : b ≡ 48 → ⊥ = eqb-false b 48 z in
    omega (arith, on_from (0 * 10 + (b - 48)) l, d.low, other)

pub number_positive : (l : List ℕ) {n : ℕ} → vertex_number_of l ≡ Some n → 0 < n
number_positive l {n} e =
    ⊎_elim
    (λ g. let z : ◌≡◌ {A = ℕ} 0 1 = cc g.1 in absurd (omega arith))
    (λ g.
    ⊎_elim
    (λ h.
    let (counted, alone) = both (ltb 0 (length l) && leb (length l) digit_limit) (digits_alone l) h.0 in
    let (some, few) = both (ltb 0 (length l)) (leb (length l) digit_limit) counted in
    let is : value l ≡ n = cc h.1 in
    omega (arith, is, value_some l (ltb-true 0 (length l) some) alone g.0))
    (λ h. let z : ◌≡◌ {A = ℕ} 0 1 = cc h.1 in absurd (omega arith))
    (pick_gave (λ x. x ≡ Some n) (ltb 0 (length l) && leb (length l) digit_limit && digits_alone l) g.1))
    (pick_gave (λ x. x ≡ Some n) (eqb (byte_at l 0) zero_digit) e)

face_with_lem : (u v w : Option ℕ) {a b d : ℕ} → face_with u v w ≡ Face a b d → (u ≡ Some a) × (v ≡ Some b) × (w ≡ Some d)
unfolding face_with
face_with_lem (Some x) (Some y) (Some z) e = (cc, cc, cc)
face_with_lem (Some x) (Some y) None e = let z : ◌≡◌ {A = ℕ} 0 1 = cc in absurd (omega arith)
face_with_lem (Some x) None w e = let z : ◌≡◌ {A = ℕ} 0 1 = cc in absurd (omega arith)
face_with_lem None v w e = let z : ◌≡◌ {A = ℕ} 0 1 = cc in absurd (omega arith)

face_of_lem : (l : List ℕ) {a b d : ℕ} → face_of l ≡ Face a b d → Positive a b d
face_of_lem l e =
    let (p, q, r) = face_with_lem (vertex_number_of (first_field l)) (vertex_number_of (second_field l)) (vertex_number_of (third_field l)) e in
    record {
      first = number_positive (first_field l) p;
      second = number_positive (second_field l) q;
      third = number_positive (third_field l) r;
    }

vertex_no_face : (x y z : Option Hundredths) {a b d : ℕ} → vertex_with x y z ≡ Face a b d → ⊥
unfolding vertex_with
vertex_no_face (Some x) (Some y) (Some z) e = let q : ◌≡◌ {A = ℕ} 0 1 = cc in omega arith
vertex_no_face (Some x) (Some y) None e = let q : ◌≡◌ {A = ℕ} 0 1 = cc in omega arith
vertex_no_face (Some x) None z e = let q : ◌≡◌ {A = ℕ} 0 1 = cc in omega arith
vertex_no_face None y z e = let q : ◌≡◌ {A = ℕ} 0 1 = cc in omega arith

pub face_positive : (l : List ℕ) {a b d : ℕ} → says l ≡ Face a b d → Positive a b d
face_positive l {a} {b} {d} e =
    ⊎_elim
    (λ g. let z : ◌≡◌ {A = ℕ} 0 1 = cc g.1 in absurd (omega arith))
    (λ g.
    ⊎_elim
    (λ h. absurd (vertex_no_face (decimal_of (first_field (drop 2 l))) (decimal_of (second_field (drop 2 l))) (decimal_of (third_field (drop 2 l))) h.1))
    (λ h.
    ⊎_elim
    (λ k. face_of_lem (drop 2 l) k.1)
    (λ k. let z : ◌≡◌ {A = ℕ} 0 1 = cc k.1 in absurd (omega arith))
    (pick_gave (λ x. x ≡ Face a b d) (begins_with 102 space l) h.1))
    (pick_gave (λ x. x ≡ Face a b d) (begins_with 118 space l) g.1))
    (pick_gave (λ x. x ≡ Face a b d) (is_skipped l) e)
