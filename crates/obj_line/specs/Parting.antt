-- A line parted at its first space.
use Rattle.std.specs.Prelude.{Bool, true, false, ◌&&◌, ◌||◌, List, ◌≡◌, ℕ, ◌+◌, ◌-◌, ◌≤◌, ◌<◌, eqb, length, take, drop, Option}
use Rattle.std.proofs.Common.{sym, ap, ◌∙◌, arith, drop_of_length-le, eqb-true}
use Rattle.sequences.specs.Pick.{both, pick_true, pick_false}
use Rattle.decimals.specs.Byte.{byte_at, byte_inside}
use Rattle.obj_numbers.specs.Finding.{place_fits}
use Rattle.obj_numbers.specs.Sizing.{to_the_end}
use Rattle.meaning.specs.ObjLine.{place_of, space, before_first, behind, decimal_of, vertex_number_of, vertex_with, face_with, vertex_of, face_of, begins_with, is_skipped, says}
use Rattle.meaning.specs.declared.ObjLine.{ObjLine}
use Rattle.meaning.specs.declared.ObjLine.TheVariants.{Skipped, Bad}
use Rattle.obj_line.specs.declared.Cut.{Cut}
use Rattle.meaning.specs.declared.Hundredths.{Hundredths}

-- what stands before_first the first space ends there, and what stands behind it begins there
pub record CutAt (s : List ℕ) (r : Cut) : Type 0 where
  pub front : take r.end s ≡ before_first space s
  pub back : take (length s - r.next) (drop r.next s) ≡ behind space s
  pub ends : r.end ≤ length s
  pub begins : r.next ≤ length s

module _ (s : List ℕ) {end : ℕ} (e : end ≡ place_of space s) where
  pub cut_there : end < length s → CutAt s (record { end = end; next = end + 1 })
  cut_there h =
      record {
        front = ap (λ (k : ℕ). take k s) e;
        back = to_the_end (end + 1) s ∙ ap (λ (k : ℕ). drop (k + 1) s) e;
        ends = omega arith;
        begins = omega arith;
      }

  pub cut_nowhere : length s ≤ end → CutAt s (record { end = end; next = end })
  cut_nowhere h =
      let here : end ≤ length s = place_fits space s e in
      record {
        front = ap (λ (k : ℕ). take k s) e;
        back = to_the_end end s ∙ drop_of_length-le s h ∙ sym (drop_of_length-le s {i = place_of space s + 1} (omega (arith, e)));
        ends = here;
        begins = here;
      }

-- what is left of a line behind its first number
abbrev pub vertex_from : Option Hundredths → List ℕ → ObjLine
vertex_from x l = vertex_with x (decimal_of (before_first space l)) (decimal_of (behind space l))

abbrev pub face_from : Option ℕ → List ℕ → ObjLine
face_from x l = face_with x (vertex_number_of (before_first space l)) (vertex_number_of (behind space l))

module _ (s : List ℕ) {r : Cut} (c : CutAt s r) where
  pub vertex_from_lem : (x : Option Hundredths) {y z : Option Hundredths} {o : ObjLine} → y ≡ decimal_of (take r.end s)
      → z ≡ decimal_of (take (length s - r.next) (drop r.next s)) → o ≡ vertex_with x y z → o ≡ vertex_from x s
  vertex_from_lem x {y} {z} p q e =
      e ∙ ap (λ w. vertex_with x w z) (p ∙ ap (λ (l : List ℕ). decimal_of l) c.front)
      ∙ ap (λ z. vertex_with x (decimal_of (before_first space s)) z) (q ∙ ap (λ (l : List ℕ). decimal_of l) c.back)

  pub vertex_of_lem : {x : Option Hundredths} {o : ObjLine} → x ≡ decimal_of (take r.end s)
      → o ≡ vertex_from x (take (length s - r.next) (drop r.next s)) → o ≡ vertex_of s
  vertex_of_lem {x} p e =
      e ∙ ap (λ (l : List ℕ). vertex_from x l) c.back
      ∙ ap (λ x. vertex_from x (behind space s)) (p ∙ ap (λ (l : List ℕ). decimal_of l) c.front)

  pub face_from_lem : (x : Option ℕ) {y z : Option ℕ} {o : ObjLine} → y ≡ vertex_number_of (take r.end s)
      → z ≡ vertex_number_of (take (length s - r.next) (drop r.next s)) → o ≡ face_with x y z → o ≡ face_from x s
  face_from_lem x {y} {z} p q e =
      e ∙ ap (λ w. face_with x w z) (p ∙ ap (λ (l : List ℕ). vertex_number_of l) c.front)
      ∙ ap (λ z. face_with x (vertex_number_of (before_first space s)) z) (q ∙ ap (λ (l : List ℕ). vertex_number_of l) c.back)

  pub face_of_lem : {x : Option ℕ} {o : ObjLine} → x ≡ vertex_number_of (take r.end s)
      → o ≡ face_from x (take (length s - r.next) (drop r.next s)) → o ≡ face_of s
  face_of_lem {x} p e =
      e ∙ ap (λ (l : List ℕ). face_from x l) c.back
      ∙ ap (λ x. face_from x (behind space s)) (p ∙ ap (λ (l : List ℕ). vertex_number_of l) c.front)

-- two bytes stand at its front: there are two
pub two_there : (s : List ℕ) (a b : ℕ) {x y : ℕ} → x ≡ byte_at s 0 → y ≡ byte_at s 1 → 0 < b → eqb x a && eqb y b ≡ true → 2 ≤ length s
two_there s a b {x} {y} p q some e =
    let (u, v) = both (eqb x a) (eqb y b) e in
    let there : 1 < length s = byte_inside s 1 (λ z. omega (arith, q, eqb-true y b v)) in
    omega arith

-- ---- the line by its first bytes

module _ (s : List ℕ) {a b c : ℕ} (p : a ≡ byte_at s 0) (q : b ≡ byte_at s 1) (r : c ≡ byte_at s 2) where
  abbrev skips : Bool
  skips = eqb (length s) 0 || eqb a 35 || (eqb a 118 && eqb b 116 && eqb c 32) || (eqb a 118 && eqb b 110 && eqb c 32)

  skips_is : is_skipped s ≡ skips
  skips_is = cc (p, q, r)

  begins_is : (x : ℕ) → begins_with x space s ≡ eqb a x && eqb b 32
  begins_is x = cc (p, q)

  pub says_skipped : skips ≡ true → Skipped ≡ says s
  says_skipped e = sym (pick_true _ _ (skips_is ∙ e))

  module _ (kept : skips ≡ false) where
    pub says_vertex : {o : ObjLine} → eqb a 118 && eqb b 32 ≡ true → o ≡ vertex_of (take (length s - 2) (drop 2 s)) → o ≡ says s
    says_vertex e g =
        g ∙ ap (λ (l : List ℕ). vertex_of l) (to_the_end 2 s)
        ∙ sym (pick_false _ _ (skips_is ∙ kept) ∙ pick_true _ _ (begins_is 118 ∙ e))

    module _ (other : eqb a 118 && eqb b 32 ≡ false) where
      pub says_face : {o : ObjLine} → eqb a 102 && eqb b 32 ≡ true → o ≡ face_of (take (length s - 2) (drop 2 s)) → o ≡ says s
      says_face e g =
          g ∙ ap (λ (l : List ℕ). face_of l) (to_the_end 2 s)
          ∙ sym (pick_false _ _ (skips_is ∙ kept) ∙ pick_false _ _ (begins_is 118 ∙ other) ∙ pick_true _ _ (begins_is 102 ∙ e))

      pub says_nothing : eqb a 102 && eqb b 32 ≡ false → Bad ≡ says s
      says_nothing e =
          sym (pick_false _ _ (skips_is ∙ kept) ∙ pick_false _ _ (begins_is 118 ∙ other) ∙ pick_false _ _ (begins_is 102 ∙ e))
