-- A start and an end of a piece as bases, and the four other corners seen from the base of their time, those of the second simplex backwards.
-- Weights of the piece combine these four to the origin. So where their shadows lie on one side, their weights are 0, then those of the bases too,
-- and there are none. That the corners are in one plane is not asked for.
use Prim.Native.Nat.{ℕ, ◌+◌, ◌<◌}
use Rattle.std.proofs.Common.{arith, sym, ◌∙◌, subst, inl, length-append}
use Rattle.std.specs.Prelude.{◌≡◌, refl, true, false, cond, ◌&&◌, ◌||◌, List, [], ◌∷◌, ◌++◌, ltb, ℤ, pos, neg_ℤ, ◌+ℤ◌, ◌*ℤ◌, length, get_or, ◌≤ℤ◌, ◌<ℤ◌}
use Rattle.std.proofs.Math.Path.{ap}
use Rattle.std.proofs.Math.Bool.{Bool, not}
use Rattle.std.proofs.Math.Dec.{T}
use Rattle.std.proofs.Math.IntN.{zero-*ℤ}
use Rattle.std.proofs.Math.Facts.{and_yes}
use Rattle.whole.specs.Vector.{Vector, origin, minus}
use Rattle.whole.specs.Order.{ord}
use Rattle.whole.specs.Quote.{quotes, ring}
use Rattle.whole.specs.Cramer.{Four, each, weigh, dot4, Place, p0, p1, p2, p3, pick}
use Rattle.meaning.specs.Pieces.{Event}
use Rattle.meaning.specs.Equations.{one, total, Touches}
use Rattle.exact.specs.Places.{place_at, apart}
use Rattle.theory.specs.Totals.{weights_times}
use Rattle.theory.specs.Solved.{weights_there}
use Rattle.corner_laws.specs.Others.{others_of}
use Rattle.corner_laws.specs.Left.{TouchIn, touch_in_is}
use Rattle.corner_laws.specs.Signed.{sided, signed, sided_zero, zero_sided, nought_of}
use Rattle.corner_laws.specs.Slots.{Based, Remains, differences_in, remains_flat, none_out}
use Rattle.corner_leaf.specs.declared.SixPoints.{SixPoints}
use Rattle.corner_leaf.specs.Points.{offset, at_end, piece_at, Timed, six_long, first_long}
use Rattle.corner_leaf.specs.Answer.{seen_from}
use Rattle.corner_leaf.specs.Base.{based_at}
use Rattle.corner_leaf.specs.Seen.{four_seen}
use Rattle.corner_sides.specs.declared.Shadow.{Shadow}
use Rattle.corner_sides.specs.declared.Crosses.{Crosses}
use Rattle.corner_sides.specs.Pivot.{Sides, sides_of, all_beyond, on_one_side, Nothing, none_on_one_side}
use Rattle.corner_sides.specs.Shadows.{Shades, sides_in, CrossesOf, shadow_x, shadow_y, no_shadow_x, no_shadow_y, backwards_x, backwards_y}

-- a corner seen from the base of its time; one of the second simplex backwards, so that its weight counts as the others do
abbrev pub facing_in : List ℤ → List ℕ → List Bool → ℕ → ℕ → ℕ → ℕ → Vector
facing_in ps at ends first s e i = cond (ltb i first) (apart ps (get_or at i 0) base) (apart ps base (get_or at i 0))
  where
    base : ℕ
    base = get_or at (cond (get_or ends i false) e s) 0

abbrev pub facing : List ℤ → SixPoints → ℕ → ℕ → ℕ → Vector
facing ps six s e i = facing_in ps six.at six.ends six.first s e i

-- s is a start and e an end, and the shadows of the four others along the axis lie on one side
unfoldable pub parted_from : List ℤ → SixPoints → ℕ → ℕ → ℕ → Bool
parted_from ps six s e axis = on_one_side (sides_of (each (shadow_x axis) four) (each (shadow_y axis) four)) && not (at_end six s) && at_end six e
  where
    four : Four Vector
    four = each (facing ps six s e) (others_of s e)

-- ---- as code finds it

module _ (ps : List ℤ) (six : SixPoints) (s e axis : ℕ) where
  pub parted_as : {q : Four ℕ} {a b c d : Shadow} {k : Crosses} {l r : Bool} → q ≡ others_of s e → Shades a axis (facing ps six s e q.v0)
      → Shades b axis (facing ps six s e q.v1) → Shades c axis (facing ps six s e q.v2) → Shades d axis (facing ps six s e q.v3)
      → CrossesOf k a b c d → l ≡ all_beyond true (sides_in k) → r ≡ all_beyond false (sides_in k)
      → (l || r) && not (at_end six s) && at_end six e ≡ parted_from ps six s e axis
  unfolding parted_from
  parted_as {q} {a} {b} {c} {d} hq ha hb hc hd hk hl hr =
      (λ i. (hl i || hr i) && not (at_end six s) && at_end six e)
      ∙ ap (λ z. on_one_side z && not (at_end six s) && at_end six e) (hk.sides ∙ shaded)
      ∙ ap (λ (q : Four ℕ). on_one_side (sides q) && not (at_end six s) && at_end six e) hq
    where
      sides : Four ℕ → Sides
      sides q = sides_of (each (shadow_x axis) (each (facing ps six s e) q)) (each (shadow_y axis) (each (facing ps six s e) q))

      shaded : sides_of (record { v0 = a.x; v1 = b.x; v2 = c.x; v3 = d.x }) (record { v0 = a.y; v1 = b.y; v2 = c.y; v3 = d.y }) ≡ sides q
      shaded = λ i. sides_of
          (record { v0 = ha.is_x.same i; v1 = hb.is_x.same i; v2 = hc.is_x.same i; v3 = hd.is_x.same i })
          (record { v0 = ha.is_y.same i; v1 = hb.is_y.same i; v2 = hc.is_y.same i; v3 = hd.is_y.same i })

-- ---- weights combine the four, and so their shadows

facing_weighs : (c : Bool) (z x x' : ℤ) → x' ≡ neg_ℤ x → sided c z *ℤ x ≡ z *ℤ cond c x x'
unfolding sided
facing_weighs true z x x' e = refl
facing_weighs false z x x' e = turned z x ∙ ap (λ y. z *ℤ y) (sym e)
  where
    turned : (z x : ℤ) → neg_ℤ z *ℤ x ≡ z *ℤ neg_ℤ x
    turned z x = ring (z ∷ x ∷ []) (search quotes depth 40 fits 9000) refl

through : {A : Type 0} (f : A → ℤ) (c : Bool) (v w : A) → f (cond c v w) ≡ cond c (f v) (f w)
through f true v w = refl
through f false v w = refl

is_true : (c : Bool) → T c → c ≡ true
is_true true t = refl
is_true false t = absurd t

is_false : (c : Bool) → T (not c) → c ≡ false
is_false true t = absurd t
is_false false t = refl

module _ (ps : List ℤ) {six : SixPoints} (h : Timed six) (s e : ℕ) (hs : s < 6) (he : e < 6) where
  abbrev a : List Event
  a = (piece_at ps six).first

  abbrev b : List Event
  b = (piece_at ps six).second

  abbrev q : Four ℕ
  q = others_of s e

  module _ (B : Based (a ++ b) s e q) (t : TouchIn a b (λ i. true)) where
    -- the weights with the sign of their simplex
    abbrev N : ℕ → ℤ
    N = signed (length a) (λ i. pos (t.w i))

    level : Remains (a ++ b) s e q N × (weigh (each N q) (differences_in (a ++ b) s e q) ≡ origin)
    level = remains_flat B N (nought_of t.level)

    flat : weigh (each N q) (each (seen_from ps six s e) q) ≡ origin
    flat = ap (weigh (each N q)) (four_seen ps six s e hs he q B.order.there) ∙ level.1

    module _ (f : Vector → ℤ) (back : (u v : Vector) → f (minus v u) ≡ neg_ℤ (f (minus u v))) where
      one_weighs : (i : ℕ) → pos (t.w i) *ℤ f (facing ps six s e i) ≡ N i *ℤ f (seen_from ps six s e i)
      one_weighs i =
          let o = place_at ps (offset six i) in
          let g = place_at ps (offset six (cond (at_end six i) e s)) in
          ap (λ z. pos (t.w i) *ℤ z) (through f (ltb i six.first) (minus o g) (minus g o))
          ∙ sym (facing_weighs (ltb i six.first) (pos (t.w i)) (f (minus o g)) (f (minus g o)) (back o g))
          ∙ ap (λ n. sided (ltb i n) (pos (t.w i)) *ℤ f (minus o g)) (sym (first_long ps six h.split))

      four_weigh : dot4 (each (λ i. pos (t.w i)) q) (each f (each (facing ps six s e) q)) ≡ dot4 (each N q) (each f (each (seen_from ps six s e) q))
      four_weigh = λ j. one_weighs q.v0 j +ℤ one_weighs q.v1 j +ℤ one_weighs q.v2 j +ℤ one_weighs q.v3 j

    not_below_lem : (n : ℕ) → pos 0 ≤ℤ pos n
    not_below_lem n = omega (arith, ord)

    module _ (axis : ℕ) (side : T (on_one_side (sides_of (each (shadow_x axis) (each (facing ps six s e) q)) (each (shadow_y axis) (each (facing ps six s e) q))))) where
      nothing : Nothing (each (λ i. pos (t.w i)) q)
      nothing =
          none_on_one_side (each (λ i. pos (t.w i)) q) (each (shadow_x axis) (each (facing ps six s e) q)) (each (shadow_y axis) (each (facing ps six s e) q))
          (four_weigh (shadow_x axis) (backwards_x axis) ∙ no_shadow_x axis (each N q) (each (seen_from ps six s e) q) flat)
          (four_weigh (shadow_y axis) (backwards_y axis) ∙ no_shadow_y axis (each N q) (each (seen_from ps six s e) q) flat)
          (not_below_lem (t.w q.v0)) (not_below_lem (t.w q.v1)) (not_below_lem (t.w q.v2)) (not_below_lem (t.w q.v3)) side

      other_none : (k : Place) → pos (t.w (pick k q)) ≡ pos 0
      other_none p0 = nothing.is0
      other_none p1 = nothing.is1
      other_none p2 = nothing.is2
      other_none p3 = nothing.is3

      each_none : (i : ℕ) → i < 6 → pos (t.w i) ≡ pos 0
      each_none i k =
          sided_zero (ltb i (length a))
          (none_out {left = λ i. false} B.order (record { start = λ x k. inl refl; end = λ x k. inl refl }) N level.0 (λ k x. ap (sided (ltb (pick k q) (length a))) (other_none k) ∙ zero_sided (ltb (pick k q) (length a))) i k refl)

      long : length a + length b ≡ 6
      long = sym (length-append a b) ∙ six_long ps six

      no_sum : total one (λ i. pos (t.w i)) a ≡ pos 0
      no_sum =
          weights_there one (λ i. pos (t.w i)) (λ i. pos 0 *ℤ pos 1) a (λ i k. each_none i (omega (arith, long)))
          ∙ weights_times (pos 0) one (λ i. pos 1) a
          ∙ zero-*ℤ (total one (λ i. pos 1) a)

      no_weights : ⊥
      no_weights = (subst (λ z. pos 0 <ℤ z) no_sum t.some).lt

  pub parted_from_lem : (axis : ℕ) → parted_from ps six s e axis ≡ true → ¬ Touches (piece_at ps six)
  unfolding parted_from
  parted_from_lem axis p t =
      let test : Bool = on_one_side (sides_of (each (shadow_x axis) (each (facing ps six s e) q)) (each (shadow_y axis) (each (facing ps six s e) q))) in
      let (r, ends) = and_yes (test && not (at_end six s)) (at_end six e) (subst T (sym p) tt) in
      let (side, starts) = and_yes test (not (at_end six s)) r in
      no_weights (based_at ps six s e hs he (is_false (at_end six s) starts) (is_true (at_end six e) ends)) (touch_in_is.0 t) axis side
