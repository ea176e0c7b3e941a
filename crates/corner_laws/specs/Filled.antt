-- Four slots for the four corners that are no base: the difference of a corner that is left, and a unit axis, one after the other from f on,
-- for each that is left out. Numbers that are 0 for those left out combine the slots as they combine the differences.
use Rattle.std.specs.Prelude.{ℕ, suc, ◌≡◌, refl, Bool, true, false, ℤ, pos}
use Rattle.std.proofs.Common.{sym, ◌∙◌, ap}
use Rattle.std.proofs.Math.IntN.{zero-*ℤ}
use Rattle.whole.specs.Vector.{Vector, origin, plus, scale, axis}
use Rattle.whole.specs.VectorLaws.{vector_eq}
use Rattle.whole.specs.Cramer.{Four, Place, p0, p1, p2, p3, pick, weigh}

unfoldable pub slot : Bool → Vector → ℕ → Vector
slot true d f = d
slot false d f = axis f

-- the axis for the next slot
unfoldable pub next : Bool → ℕ → ℕ
next true f = f
next false f = suc f

abbrev pub filled : ℕ → Four Bool → Four Vector → Four Vector
filled f l d =
    let f₁ = next l.v0 f in
    let f₂ = next l.v1 f₁ in
    let f₃ = next l.v2 f₂ in
    record { v0 = slot l.v0 d.v0 f; v1 = slot l.v1 d.v1 f₁; v2 = slot l.v2 d.v2 f₂; v3 = slot l.v3 d.v3 f₃ }

-- four numbers that are 0 for each corner left out
pub record NoneOut (l : Four Bool) (n : Four ℤ) : Type 0 where
  pub out : (k : Place) → pick k l ≡ false → pick k n ≡ pos 0

nothing : (v : Vector) → scale (pos 0) v ≡ origin
nothing v = vector_eq (zero-*ℤ v.x) (zero-*ℤ v.y) (zero-*ℤ v.z)

slot_scale : (c : Bool) (n : ℤ) (d : Vector) (f : ℕ) → (c ≡ false → n ≡ pos 0) → scale n (slot c d f) ≡ scale n d
unfolding slot
slot_scale true n d f h = refl
slot_scale false n d f h = rw (h refl) (nothing (axis f) ∙ sym (nothing d))

pub same_weigh : (f : ℕ) (l : Four Bool) (d : Four Vector) (n : Four ℤ) → NoneOut l n → weigh n (filled f l d) ≡ weigh n d
same_weigh f l d n h = λ i. plus (plus (plus (one p0 f i) (one p1 f₁ i)) (one p2 f₂ i)) (one p3 f₃ i)
  where
    f₁ : ℕ
    f₁ = next l.v0 f

    f₂ : ℕ
    f₂ = next l.v1 f₁

    f₃ : ℕ
    f₃ = next l.v2 f₂

    one : (k : Place) (g : ℕ) → scale (pick k n) (slot (pick k l) (pick k d) g) ≡ scale (pick k n) (pick k d)
    one k g = slot_scale (pick k l) (pick k n) (pick k d) g (h.out k)

-- ---- the axes go round: three further on they are the same

slot_round : (c : Bool) (d : Vector) (f : ℕ) → slot c d (suc (suc (suc f))) ≡ slot c d f
unfolding slot axis
slot_round true d f = refl
slot_round false d f = refl

next_round : (c : Bool) (f : ℕ) → next c (suc (suc (suc f))) ≡ suc (suc (suc (next c f)))
unfolding next
next_round true f = refl
next_round false f = refl

pub filled_round : (f : ℕ) (l : Four Bool) (d : Four Vector) → filled (suc (suc (suc f))) l d ≡ filled f l d
filled_round f l d = λ i. record {
  v0 = slot_round l.v0 d.v0 f i;
  v1 = at l.v1 d.v1 (next_round l.v0 f) i;
  v2 = at l.v2 d.v2 second i;
  v3 = at l.v3 d.v3 (ap (next l.v2) second ∙ next_round l.v2 _) i;
}
  where
    at : (c : Bool) (d : Vector) {g h : ℕ} → g ≡ suc (suc (suc h)) → slot c d g ≡ slot c d h
    at c d {g} {h} e = ap (slot c d) e ∙ slot_round c d h

    second : next l.v1 (next l.v0 (suc (suc (suc f)))) ≡ suc (suc (suc (next l.v1 (next l.v0 f))))
    second = ap (next l.v1) (next_round l.v0 f) ∙ next_round l.v1 (next l.v0 f)
