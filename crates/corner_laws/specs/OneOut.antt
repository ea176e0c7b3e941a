-- A singular piece has weights exactly when it has some with one corner left out, and that corner may lie in either simplex.
use Rattle.std.specs.Prelude.{ℕ, ◌<◌, ◌≡◌, refl, ◌≢◌, ◌↔◌, Bool, true, List, [], ◌∷◌, ◌++◌, T, ℤ, pos, neg_ℤ, ◌+ℤ◌, ◌-ℤ◌, ◌*ℤ◌, length, ◌<ℤ◌}
use Rattle.std.proofs.Common.{arith, sym, ◌∙◌, subst}
use Rattle.std.proofs.Math.Path.{ap}
use Rattle.std.proofs.Math.IntN.{*ℤ-zero}
use Rattle.std.specs.Int.Signed.{lt_z_yes}
use Rattle.whole.specs.Vector.{Vector}
use Rattle.whole.specs.VectorLaws.{vector_eq}
use Rattle.whole.specs.Quote.{quotes, combine, times}
use Rattle.whole.specs.Signs.{factor_zero}
use Rattle.whole.specs.Cramer.{Four, each, volumes, Place, p0, p1, p2, p3, pick}
use Rattle.meaning.specs.Scene.{Scene}
use Rattle.meaning.specs.Pieces.{Event, Piece, piece_of}
use Rattle.meaning.specs.Equations.{one, total, Touch, determinant_of, Touches}
use Rattle.meaning.specs.Verdicts.{PieceIs}
use Rattle.meaning.specs.declared.Kind.{Kind}
use Rattle.meaning.specs.declared.Verdict.TheVariants.{Degenerate}
use Rattle.theory.specs.Differences.{differences, Form, alone, around, formed}
use Rattle.theory.specs.Spread.{factor, first_numbers, second_numbers, weights_of}
use Rattle.theory.proofs.Shapes.{solved}
use Rattle.theory.specs.Bridge.{singular_is}
use Rattle.theory.specs.Independence.{unminus}
use Rattle.theory.specs.RationalVerdicts.{OfForm, piece_form}
use Rattle.corner_laws.specs.Left.{never_makes, touch_in_is}
use Rattle.corner_laws.specs.Leave.{Leaves}
use Rattle.corner_laws.specs.Others.{skip, others_of, order_of}
use Rattle.corner_laws.specs.Slots.{Based, differences_in}
use Rattle.corner_laws.specs.Filled.{slot, next}
use Rattle.corner_laws.specs.Dependent.{Vanish}
use Rattle.corner_laws.specs.Opened.{open_leaves}

-- every corner is left
abbrev all_left : ℕ → Bool
all_left i = true

above_some : {w : ℤ} → pos 0 <ℤ w → w ≢ pos 0
above_some {w} h e = (subst (λ z. pos 0 <ℤ z) e h).lt

-- where the common factor is 0, numbers to which weights with a sum above 0 are proportional are 0
nothing : (w x n d : ℤ) → pos 0 <ℤ w → d ≡ pos 0 → x *ℤ d ≡ w *ℤ n → n ≡ pos 0
nothing w x n d h z e = factor_zero w n (sym e ∙ ap (λ y. x *ℤ y) z ∙ *ℤ-zero x) (above_some h)

-- ---- the frame of a piece: its base, an event at each time, and the four others

unfoldable start_base : Form → ℕ
start_base alone = 0
start_base around = 0

unfoldable end_base : Form → ℕ
end_base alone = 1
end_base around = 2

module _ (form : Form) (p q : Vector) (o : Four Event) where
  abbrev a : List Event
  a = (formed form p q o).first

  abbrev b : List Event
  b = (formed form p q o).second

  abbrev E : Four ℤ
  E = volumes (differences p q o)

  abbrev others : Four ℕ
  others = others_of (start_base form) (end_base form)

based : (form : Form) (p q : Vector) (o : Four Event) → Based (a form p q o ++ b form p q o) (start_base form) (end_base form) (others form p q o)
unfolding formed start_base end_base
based alone p q o = record { six = refl; order = order_of 0 1 (omega arith) (omega arith) (λ e. omega arith); starts = refl; ends = refl }
based around p q o = record { six = refl; order = order_of 0 2 (omega arith) (omega arith) (λ e. omega arith); starts = refl; ends = refl }

framed : (form : Form) (p q : Vector) (o : Four Event) → differences_in (a form p q o ++ b form p q o) (start_base form) (end_base form) (others form p q o) ≡ differences p q o
unfolding formed start_base end_base skip
framed alone p q o = refl
framed around p q o = refl

-- ---- singular weights make all four volumes 0

module _ (form : Form) (p q : Vector) (o : Four Event) (z : factor form (E form p q o) ≡ pos 0) (t : Touches (formed form p q o)) where
  abbrev sum : ℤ
  sum = total one (λ i. pos (t.u i)) (a form p q o)

  first_none : (i : ℕ) → i < length (a form p q o) → weights_of (first_numbers form o (E form p q o)) i ≡ pos 0
  first_none i h =
      nothing sum (pos (t.u i)) (weights_of (first_numbers form o (E form p q o)) i) (factor form (E form p q o)) t.some z
      ((solved form p q o).first (λ i. pos (t.u i)) (λ i. pos (t.v i)) t.balanced i h)

  second_none : (i : ℕ) → i < length (b form p q o) → weights_of (second_numbers form (E form p q o)) i ≡ pos 0
  second_none i h =
      nothing sum (pos (t.v i)) (weights_of (second_numbers form (E form p q o)) i) (factor form (E form p q o)) t.some z
      ((solved form p q o).second (λ i. pos (t.u i)) (λ i. pos (t.v i)) t.balanced i h)

flat : (form : Form) (p q : Vector) (o : Four Event) → factor form (E form p q o) ≡ pos 0 → Touches (formed form p q o) → (k : Place) → pick k (E form p q o) ≡ pos 0
unfolding formed first_numbers second_numbers
flat alone p q o z t p0 = second_none alone p q o z t 0 (omega arith)
flat alone p q o z t p1 = second_none alone p q o z t 1 (omega arith)
flat alone p q o z t p2 = second_none alone p q o z t 2 (omega arith)
flat alone p q o z t p3 = second_none alone p q o z t 3 (omega arith)
flat around p q o z t p0 = unminus (first_none around p q o z t 1 (omega arith))
flat around p q o z t p1 = second_none around p q o z t 0 (omega arith)
flat around p q o z t p2 = second_none around p q o z t 1 (omega arith)
flat around p q o z t p3 = second_none around p q o z t 2 (omega arith)

-- ---- the theorem

module _ (form : Form) (p q : Vector) (o : Four Event) where
  vanish : factor form (E form p q o) ≡ pos 0 → Touches (formed form p q o) → (f : ℕ) → f < 3 → Vanish f (each all_left (others form p q o)) (differences_in (a form p q o ++ b form p q o) (start_base form) (end_base form) (others form p q o))
  unfolding slot next
  vanish z t f h = record { at = λ k. ap (λ d. pick k (volumes d)) (framed form p q o) ∙ flat form p q o z t k }

  formed_one_out : determinant_of (formed form p q o) ≡ pos 0 → Touches (formed form p q o) ↔ Leaves (a form p q o) (b form p q o) all_left
  formed_one_out e = (
    λ t.
        open_leaves (a form p q o) (b form p q o) (based form p q o) (record { start = λ n k. absurd (subst T n tt); end = λ n k. absurd (subst T n tt) })
        (vanish ((singular_is form p q o).0 e) t) (touch_in_is.0 t),
    λ l. touch_in_is.1 (never_makes l.place all_left l.touch),
  )

pub one_corner_out : (s : Scene) (kind : Kind) (i j k : ℕ) → PieceIs (piece_of s kind i j k) Degenerate
    → Touches (piece_of s kind i j k) ↔ Leaves (piece_of s kind i j k).first (piece_of s kind i j k).second all_left
unfolding PieceIs
one_corner_out s kind i j k = subst (λ (p : Piece). determinant_of p ≡ pos 0 → Touches p ↔ Leaves p.first p.second all_left) f.is (formed_one_out f.form f.start f.end f.others)
  where
    f : OfForm (piece_of s kind i j k)
    f = piece_form s kind i j k

-- ---- one point against one point is equality

level_one : (w v x y : ℤ) → w *ℤ pos 1 +ℤ pos 0 ≡ v *ℤ pos 1 +ℤ pos 0 → w *ℤ x +ℤ pos 0 ≡ v *ℤ y +ℤ pos 0 → w ≢ pos 0 → x ≡ y
level_one w v x y h k n =
    let e : x -ℤ y ≡ pos 0 = factor_zero w (x -ℤ y) (combine (w ∷ v ∷ x ∷ y ∷ []) (times (pos 1) k ∷ times (neg_ℤ y) h ∷ []) (search quotes depth 40 fits 9000) refl) n in
    combine (x ∷ y ∷ []) (times (pos 1) e ∷ []) (search quotes depth 40 fits 9000) refl

pub one_against_one : (x y : Event) → Touch (x ∷ []) (y ∷ []) ↔ (x ≡ y)
unfolding total
one_against_one x y = (
  λ t.
      let w = pos (t.u 0) in
      let v = pos (t.v 0) in
      let n : w ≢ pos 0 = λ e. above_some t.some (ap (λ z. z *ℤ pos 1 +ℤ pos 0) e) in
      let same : (f g : ℤ) → w *ℤ f +ℤ pos 0 ≡ v *ℤ g +ℤ pos 0 → f ≡ g = λ f g k. level_one w v f g t.balanced.sums k n in
      let place : x.place ≡ y.place =
      vector_eq (same x.place.x y.place.x t.balanced.xs) (same x.place.y y.place.y t.balanced.ys)
      (same x.place.z y.place.z t.balanced.zs) in
      let time : x.time ≡ y.time = same x.time y.time t.balanced.times in
      λ i. record { place = place i; time = time i },
  λ e.
      subst (λ (z : Event). Touch (x ∷ []) (z ∷ [])) e
      (record { u = λ i. 1; v = λ i. 1; balanced = record { sums = refl; xs = refl; ys = refl; zs = refl; times = refl }; some = lt_z_yes tt }),
)
