-- A far pair touches in no piece, singular or not, and at no time of straight motion; so it is neither hit nor touch.
use Rattle.std.specs.Prelude.{ℕ, ◌/◌, ◌%◌, true, ◌&&◌, ◌||◌, List, [], ◌∷◌, ◌⊎◌, ◌≡◌, ◌<ℤ◌}
use Rattle.std.proofs.Common.{inl, inr, ⊎_elim, sym, arith}
use Rattle.std.specs.Int.Signed.{lt_z_yes, ≤ℤ_refl}
use Rattle.whole.specs.Order.{ord}
use Rattle.whole.specs.Vector.{Vector}
use Rattle.sequences.specs.Pick.{both, one_of}
use Rattle.meaning.specs.Scene.{Scene, ends_of, edge_end, corner}
use Rattle.meaning.specs.Boxes.{Span, Axis, x_axis, y_axis, z_axis, joint}
use Rattle.meaning.specs.Near.{where_at, vertex_span_at, first_span_at, second_span_at, under, far_on, far}
use Rattle.meaning.specs.Pieces.{Event, moving_edge, piece_of}
use Rattle.meaning.specs.Equations.{Touch, Touches}
use Rattle.meaning.specs.Motion.{first_part, second_part, Together, TouchInMotion}
use Rattle.meaning.specs.Verdicts.{PieceIs, PairIs}
use Rattle.meaning.specs.Resting.{PieceSettled, PairSettled}
use Rattle.meaning.specs.declared.Frame.{Frame}
use Rattle.meaning.specs.declared.Frame.TheVariants.{Start, End}
use Rattle.meaning.specs.declared.Kind.{Kind}
use Rattle.meaning.specs.declared.Kind.TheVariants.{PointTriangle, EdgeEdge}
use Rattle.meaning.specs.declared.Settled as Words
use Rattle.meaning.specs.declared.Verdict.TheVariants.{Hit}
use Rattle.theory.specs.Bounds.{Every, every_imp}
use Rattle.theory.specs.InOrder.{lower_first}
use Rattle.theory.specs.SamePoints.{touch_turned}
use Rattle.theory.specs.Spans.{Holds, joint_left, joint_right}
use Rattle.near_laws.specs.Divided.{Fair, x_fair, y_fair, z_fair, Beneath, Above, Divided, MadeOf, point_made, edge_made, triangle_made}
use Rattle.near_laws.specs.Divided.{divided_apart, divided_in_motion}

-- ---- a part's box at one time holds its vertices

module _ (s : Scene) (a : Axis) (f : Frame) where
  abbrev There : Span → ℕ → Type 0
  There p v = Holds p (a (where_at f s v))

  own_place : (v : ℕ) → There (vertex_span_at f s a v) v
  own_place v = record { low = ≤ℤ_refl _; high = ≤ℤ_refl _ }

  edge_held : (j : ℕ) → Every (There (joint (vertex_span_at f s a (edge_end s j 0)) (vertex_span_at f s a (edge_end s j 1)))) (edge_end s j 0 ∷ edge_end s j 1 ∷ [])
  edge_held j =
      let p = vertex_span_at f s a (edge_end s j 0) in
      let q = vertex_span_at f s a (edge_end s j 1) in
      (joint_left p q _ (own_place _), (joint_right p q _ (own_place _), tt))

  pub first_held : (kind : Kind) (i : ℕ) → Every (There (first_span_at f s kind a i)) (first_part s kind i)
  unfolding first_span_at first_part
  first_held PointTriangle i = (own_place i, tt)
  first_held EdgeEdge i = edge_held i

  pub second_held : (kind : Kind) (j : ℕ) → Every (There (second_span_at f s kind a j)) (second_part s kind j)
  unfolding second_span_at second_part
  second_held PointTriangle j =
      let p = vertex_span_at f s a (corner s j 0) in
      let q = vertex_span_at f s a (corner s j 1) in
      let r = vertex_span_at f s a (corner s j 2) in (
        joint_left (joint p q) r _ (joint_left p q _ (own_place _)),
        (joint_left (joint p q) r _ (joint_right p q _ (own_place _)), (joint_right (joint p q) r _ (own_place _), tt)),
      )
  second_held EdgeEdge j = edge_held j

-- ---- boxes of which one is below the other at both times divide the parts

every_both : {A : Type 0} (P Q : A → Type 0) (l : List A) → Every P l → Every Q l → Every (λ x. P x × Q x) l
every_both P Q [] p q = tt
every_both P Q (x ∷ l) p q = ((p.0, q.0), every_both P Q l p.1 q.1)

is_under : (p q : Span) → under p q ≡ true → p.high <ℤ q.low
is_under p q e = lt_z_yes (rw e tt)

module _ (s : Scene) (a : Axis) (l m : List ℕ) (p p' q q' : Span)
    (starts : Every (There s a Start p) l) (ends : Every (There s a End p') l)
    (starts' : Every (There s a Start q) m) (ends' : Every (There s a End q') m) where
  divided_by : under p q ≡ true → under p' q' ≡ true → Divided s a l m
  unfolding where_at
  divided_by e e' =
      let b = is_under p q e in
      let b' = is_under p' q' e' in
      record {
        at_start = p.high;
        at_end = p'.high;
        low =
            every_imp (λ v. There s a Start p v × There s a End p' v) (Beneath s a p.high p'.high)
            (λ v h. record { starts = h.0.high; ends = h.1.high }) l
            (every_both (There s a Start p) (There s a End p') l starts ends);
        high =
            every_imp (λ v. There s a Start q v × There s a End q' v) (Above s a p.high p'.high)
            (λ v h. record { starts = omega (arith, ord, h.0.low, b); ends = omega (arith, ord, h.1.low, b') }) m
            (every_both (There s a Start q) (There s a End q') m starts' ends');
      }

-- either part is below the other
abbrev pub Sides : Scene → Axis → List ℕ → List ℕ → Type 0
Sides s a l m = Divided s a l m ⊎ Divided s a m l

turned : {s : Scene} {a : Axis} {l m : List ℕ} → Sides s a l m → Sides s a m l
turned (inl d) = inr d
turned (inr d) = inl d

far_divides : (s : Scene) (kind : Kind) (i j : ℕ) (a : Axis) → far_on s kind i j a ≡ true → Sides s a (first_part s kind i) (second_part s kind j)
far_divides s kind i j a e =
    let p = first_span_at Start s kind a i in
    let p' = first_span_at End s kind a i in
    let q = second_span_at Start s kind a j in
    let q' = second_span_at End s kind a j in
    let first = first_held s a Start kind i in
    let first' = first_held s a End kind i in
    let second = second_held s a Start kind j in
    let second' = second_held s a End kind j in
    ⊎_elim
    (λ h. let (b, c) = both (under p q) (under p' q') h in
    inl (divided_by s a (first_part s kind i) (second_part s kind j) p p' q q' first first' second second' b c))
    (λ h. let (b, c) = both (under q p) (under q' p') h.1 in
    inr (divided_by s a (second_part s kind j) (first_part s kind i) q q' p p' second second' first first' b c))
    (one_of (under p q && under p' q') (under q p && under q' p') e)

-- an axis, and who is below whom on it
pub record Parted (s : Scene) (kind : Kind) (i j : ℕ) : Type 0 where
  pub axis : Axis
  pub fair : Fair axis
  pub sides : Sides s axis (first_part s kind i) (second_part s kind j)

pub far_parted : (s : Scene) (kind : Kind) (i j : ℕ) → far s kind i j ≡ true → Parted s kind i j
far_parted s kind i j e =
    ⊎_elim
    (λ xy. ⊎_elim
    (λ x. record { axis = x_axis; fair = x_fair; sides = far_divides s kind i j x_axis x })
    (λ y. record { axis = y_axis; fair = y_fair; sides = far_divides s kind i j y_axis y.1 })
    (one_of (far_on s kind i j x_axis) (far_on s kind i j y_axis) xy))
    (λ z. record { axis = z_axis; fair = z_fair; sides = far_divides s kind i j z_axis z.1 })
    (one_of (far_on s kind i j x_axis || far_on s kind i j y_axis) (far_on s kind i j z_axis) e)

-- ---- so it does not touch

module _ {s : Scene} {a : Axis} (fair : Fair a) where
  sides_apart : {l m : List ℕ} {f g : List Event} → Sides s a l m → MadeOf s l f → MadeOf s m g → ¬ Touch f g
  sides_apart (inl d) made also t = divided_apart fair d made also t
  sides_apart (inr d) made also t = divided_apart fair d also made (touch_turned t)

pieces_apart : (s : Scene) {a : Axis} → Fair a → (kind : Kind) (i j k : ℕ) → Sides s a (first_part s kind i) (second_part s kind j)
    → ¬ Touches (piece_of s kind i j k)
unfolding piece_of first_part second_part
pieces_apart s fair PointTriangle i j k d = sides_apart fair d (point_made s i) (triangle_made s j k)
pieces_apart s fair EdgeEdge i j k d =
    lower_first (λ m n. ¬ Touch (moving_edge s.positions (ends_of s m) (k / 2)) (moving_edge s.positions (ends_of s n) (k % 2))) i j
    (sides_apart fair d (edge_made s i (k / 2)) (edge_made s j (k % 2)))
    (sides_apart fair (turned d) (edge_made s j (k / 2)) (edge_made s i (k % 2)))

together_turned : {p q : List Vector} → Together p q → Together q p
together_turned t =
    record {
      u = t.v;
      v = t.u;
      some = rw t.sums at t.some;
      sums = sym t.sums;
      xs = sym t.xs;
      ys = sym t.ys;
      zs = sym t.zs;
    }

module _ (s : Scene) (kind : Kind) (i j : ℕ) (h : far s kind i j ≡ true) where
  pub far_apart : (k : ℕ) → ¬ Touches (piece_of s kind i j k)
  far_apart k = let d = far_parted s kind i j h in pieces_apart s d.fair kind i j k d.sides

  pub far_apart_in_motion : ¬ TouchInMotion s kind i j
  far_apart_in_motion t =
      let d = far_parted s kind i j h in
      ⊎_elim
      (λ b. divided_in_motion d.fair b t.p t.q t.within t.positive t.together)
      (λ b. divided_in_motion d.fair b t.p t.q t.within t.positive (together_turned t.together))
      d.sides

  pub far_never_hit : ¬ PairIs s kind i j Hit
  unfolding PairIs PieceIs
  far_never_hit p = far_apart p.which p.has.1

  -- nor is it a touch
  pub far_never_meets : ¬ PairSettled s kind i j Words.TheVariants.Hit × ¬ PairSettled s kind i j Words.TheVariants.Touch
  unfolding PairSettled PieceSettled PieceIs
  far_never_meets = (
    λ p. far_apart p.which p.has.1,
    λ p. far_apart p.1.which p.1.has.1,
  )
