-- The points of two simplices as columns of five numbers, those of the second with the other sign: weights that touch are weights that take the
-- columns to nothing. So two simplices that do not touch lie on two sides of something, and stay so when every coordinate is blown up far enough
-- and then nudged.
use Prim.Native.Nat.{ℕ, suc, ◌+◌, ◌-◌, ◌≤◌}
use Rattle.std.specs.Prelude.{◌≡◌, Bool, true, false, negsuc, neg_ℤ, ◌+ℤ◌, ◌-ℤ◌, ◌*ℤ◌, length, ◌≤ℤ◌, ◌<ℤ◌}
use Rattle.std.proofs.Math.Path.{refl, ap, subst}
use Rattle.std.proofs.Common.{sym, ◌∙◌, ap₂, arith}
use mathlib.Core.List.{List, [], ◌∷◌, ◌++◌, map}
use Rattle.std.proofs.Math.IntN.{ℤ, pos}
use Rattle.std.proofs.lemmas.List.{length-map}
use Rattle.std.specs.Int.Signed.{le_z}
use Rattle.whole.specs.Vector.{Vector, plus, scale}
use Rattle.whole.specs.Quote.{quotes, ring, combine, times}
use Rattle.whole.specs.Order.{ord, le, lt, of_le, of_lt}
use Rattle.meaning.specs.Pieces.{Event}
use Rattle.meaning.specs.Equations.{one, x_of, y_of, z_of, time_of, total, Touch}
use Rattle.theory.specs.Totals.{total_same, total_times, total_map, total_append}
use Rattle.theory.specs.Bounds.{Every, every_imp, every_map}
use Rattle.theory.specs.Spans.{Compared, compared, ordered, reversed}
use Rattle.corner_laws.specs.Left.{TouchIn, touch_in_is}
use Rattle.clean_laws.specs.Gordan.{Space, Null, Side, Gordan, null, side, gordan, never_both, Enough, enough, still_outgrows, nat_le, every_both}

-- ---- five numbers

pub record Five : Type 0 where
  pub sum : ℤ
  pub x : ℤ
  pub y : ℤ
  pub z : ℤ
  pub time : ℤ

abbrev pub dot5 : Five → Five → ℤ
dot5 a b = a.sum *ℤ b.sum +ℤ a.x *ℤ b.x +ℤ a.y *ℤ b.y +ℤ a.z *ℤ b.z +ℤ a.time *ℤ b.time

abbrev all5 : Five → List ℤ
all5 a = a.sum ∷ a.x ∷ a.y ∷ a.z ∷ a.time ∷ []

square : (a : ℤ) → pos 0 ≤ℤ (a *ℤ a)
square (pos n) = nat_le _
square (negsuc n) = nat_le _

-- numbers whose squares sum to 0 are 0
pub no_square : (a b : ℤ) → pos 0 ≤ℤ b → (a *ℤ a +ℤ b) ≤ℤ pos 0 → a ≡ pos 0
no_square a b h k = go (le_z a (pos 0)) (le_z (pos 0) a) (compared a (pos 0)) (compared (pos 0) a)
  where
    e : List ℤ
    e = a ∷ b ∷ []

    go : (c d : Bool) → Compared a (pos 0) c → Compared (pos 0) a d → a ≡ pos 0
    go true true (ordered x) (ordered y) = omega (arith, ord)
    go false d (reversed x) y =
        let f = of_le e (search quotes depth 40 fits 9000) (square (a -ℤ pos 1)) in
        let g = of_le e (search quotes depth 40 fits 9000) k in
        absurd (omega (arith, ord))
    go true false (ordered x) (reversed y) =
        let f = of_le e (search quotes depth 40 fits 9000) (square (a +ℤ pos 1)) in
        let g = of_le e (search quotes depth 40 fits 9000) k in
        absurd (omega (arith, ord))

first_none : (a b c d e : ℤ) → (a *ℤ a +ℤ b *ℤ b +ℤ c *ℤ c +ℤ d *ℤ d +ℤ e *ℤ e) ≤ℤ pos 0 → a ≡ pos 0
first_none a b c d e h =
    let l : List ℤ = a ∷ b ∷ c ∷ d ∷ e ∷ [] in
    let fb = of_le l (search quotes depth 40 fits 9000) (square b) in
    let fc = of_le l (search quotes depth 40 fits 9000) (square c) in
    let fd = of_le l (search quotes depth 40 fits 9000) (square d) in
    let fe = of_le l (search quotes depth 40 fits 9000) (square e) in
    let g = of_le l (search quotes depth 40 fits 9000) h in
    no_square a (b *ℤ b +ℤ c *ℤ c +ℤ d *ℤ d +ℤ e *ℤ e) (le l (search quotes depth 60 fits 9000) (omega arith)) (le l (search quotes depth 60 fits 9000) (omega arith))

rotated : (a b c d e : ℤ) → (a *ℤ a +ℤ b *ℤ b +ℤ c *ℤ c +ℤ d *ℤ d +ℤ e *ℤ e) ≤ℤ pos 0 → (b *ℤ b +ℤ c *ℤ c +ℤ d *ℤ d +ℤ e *ℤ e +ℤ a *ℤ a) ≤ℤ pos 0
rotated a b c d e h = let l : List ℤ = a ∷ b ∷ c ∷ d ∷ e ∷ [] in le l (search quotes depth 60 fits 9000) (omega (arith, of_le l (search quotes depth 60 fits 9000) h))

pub only_none : (a : Five) → dot5 a a ≤ℤ pos 0 → (y : Five) → dot5 y a ≡ pos 0
only_none a h y =
    let h1 = rotated a.sum a.x a.y a.z a.time h in
    let h2 = rotated a.x a.y a.z a.time a.sum h1 in
    let h3 = rotated a.y a.z a.time a.sum a.x h2 in
    let h4 = rotated a.z a.time a.sum a.x a.y h3 in
    let e0 = first_none a.sum a.x a.y a.z a.time h in
    let e1 = first_none a.x a.y a.z a.time a.sum h1 in
    let e2 = first_none a.y a.z a.time a.sum a.x h2 in
    let e3 = first_none a.z a.time a.sum a.x a.y h3 in
    let e4 = first_none a.time a.sum a.x a.y a.z h4 in
    combine (all5 y ++ all5 a) (times y.sum e0 ∷ times y.x e1 ∷ times y.y e2 ∷ times y.z e3 ∷ times y.time e4 ∷ []) (search quotes depth 60 fits 90000) refl

abbrev plus5 : Five → Five → Five
plus5 a b = record { sum = a.sum +ℤ b.sum; x = a.x +ℤ b.x; y = a.y +ℤ b.y; z = a.z +ℤ b.z; time = a.time +ℤ b.time }

abbrev scale5 : ℤ → Five → Five
scale5 k a = record { sum = k *ℤ a.sum; x = k *ℤ a.x; y = k *ℤ a.y; z = k *ℤ a.z; time = k *ℤ a.time }

pub dot5_plus : (a b c : Five) → dot5 (plus5 a b) c ≡ dot5 a c +ℤ dot5 b c
dot5_plus a b c = ring (all5 a ++ all5 b ++ all5 c) (search quotes depth 60 fits 90000) refl

pub dot5_scale : (k : ℤ) (a c : Five) → dot5 (scale5 k a) c ≡ k *ℤ dot5 a c
dot5_scale k a c = ring (k ∷ all5 a ++ all5 c) (search quotes depth 60 fits 90000) refl

pub dot5_either : (a b : Five) → dot5 a b ≡ dot5 b a
dot5_either a b = ring (all5 a ++ all5 b) (search quotes depth 60 fits 90000) refl

unfoldable pub five : Space Five
five = record {
  dot = dot5;
  nothing = record { sum = pos 0; x = pos 0; y = pos 0; z = pos 0; time = pos 0 };
  plus = plus5;
  scale = scale5;
  dot_plus = dot5_plus;
  dot_scale = dot5_scale;
  either = dot5_either;
  only_nothing = only_none;
}

-- ---- the columns of two simplices

abbrev pub column_of : Event → Five
column_of e = record { sum = pos 1; x = e.place.x; y = e.place.y; z = e.place.z; time = e.time }

abbrev pub away_of : Event → Five
away_of e = record { sum = negsuc 0; x = neg_ℤ e.place.x; y = neg_ℤ e.place.y; z = neg_ℤ e.place.z; time = neg_ℤ e.time }

abbrev pub columns : List Event → List Event → List Five
columns a b = map column_of a ++ map away_of b

abbrev totals : (ℕ → ℤ) → List Event → Five
totals w l = record { sum = total one w l; x = total x_of w l; y = total y_of w l; z = total z_of w l; time = total time_of w l }

module _ (y : Five) where
  along_columns : (w : ℕ → ℤ) (l : List Event) → total (λ (e : Event). dot5 y (column_of e)) w l ≡ dot5 y (totals w l)
  unfolding total
  along_columns w [] = ring (all5 y) (search quotes depth 60 fits 90000) refl
  along_columns w (e ∷ l) = ap (λ n. w 0 *ℤ dot5 y (column_of e) +ℤ n) (along_columns (λ i. w (suc i)) l) ∙ add (w 0) (column_of e) (totals (λ i. w (suc i)) l)
    where
      add : (k : ℤ) (c t : Five) → k *ℤ dot5 y c +ℤ dot5 y t
          ≡ y.sum *ℤ (k *ℤ c.sum +ℤ t.sum) +ℤ y.x *ℤ (k *ℤ c.x +ℤ t.x) +ℤ y.y *ℤ (k *ℤ c.y +ℤ t.y) +ℤ y.z *ℤ (k *ℤ c.z +ℤ t.z) +ℤ y.time *ℤ (k *ℤ c.time +ℤ t.time)
      add k c t = ring (k ∷ all5 y ++ all5 c ++ all5 t) (search quotes depth 60 fits 90000) refl

  away : (e : Event) → dot5 y (away_of e) ≡ negsuc 0 *ℤ dot5 y (column_of e)
  away e = ring (all5 y ++ (e.place.x ∷ e.place.y ∷ e.place.z ∷ e.time ∷ [])) (search quotes depth 60 fits 90000) refl

  along_away : (w : ℕ → ℤ) (l : List Event) → total (λ (e : Event). dot5 y (away_of e)) w l ≡ negsuc 0 *ℤ dot5 y (totals w l)
  along_away w l = total_same (λ e. dot5 y (away_of e)) (λ e. negsuc 0 *ℤ dot5 y (column_of e)) w l away ∙ total_times (negsuc 0) (λ e. dot5 y (column_of e)) w l ∙ ap (λ n. negsuc 0 *ℤ n) (along_columns w l)

-- measured alike in every direction, they are one
pub record Alike (a b : Five) : Type 0 where
  pub sum : a.sum ≡ b.sum
  pub x : a.x ≡ b.x
  pub y : a.y ≡ b.y
  pub z : a.z ≡ b.z
  pub time : a.time ≡ b.time

abbrev unit : ℤ → ℤ → ℤ → ℤ → ℤ → Five
unit s x y z t = record { sum = s; x = x; y = y; z = z; time = t }

equal : {a b : Five} → ((y : Five) → dot5 y a +ℤ negsuc 0 *ℤ dot5 y b ≡ pos 0) → Alike a b
equal {a} {b} h = record {
  sum = combine (all5 a ++ all5 b) (times (pos 1) (h (unit (pos 1) (pos 0) (pos 0) (pos 0) (pos 0))) ∷ []) (search quotes depth 60 fits 90000) refl;
  x = combine (all5 a ++ all5 b) (times (pos 1) (h (unit (pos 0) (pos 1) (pos 0) (pos 0) (pos 0))) ∷ []) (search quotes depth 60 fits 90000) refl;
  y = combine (all5 a ++ all5 b) (times (pos 1) (h (unit (pos 0) (pos 0) (pos 1) (pos 0) (pos 0))) ∷ []) (search quotes depth 60 fits 90000) refl;
  z = combine (all5 a ++ all5 b) (times (pos 1) (h (unit (pos 0) (pos 0) (pos 0) (pos 1) (pos 0))) ∷ []) (search quotes depth 60 fits 90000) refl;
  time = combine (all5 a ++ all5 b) (times (pos 1) (h (unit (pos 0) (pos 0) (pos 0) (pos 0) (pos 1))) ∷ []) (search quotes depth 60 fits 90000) refl;
}

module _ (a b : List Event) where
  abbrev rest : (ℕ → ℤ) → ℕ → ℤ
  rest w i = w (length a + i)

  apart_sums : (f : Five → ℤ) (w : ℕ → ℤ) → total f w (columns a b) ≡ total (λ (e : Event). f (column_of e)) w a +ℤ total (λ (e : Event). f (away_of e)) (rest w) b
  apart_sums f w =
      total_append f w (map column_of a) (map away_of b)
      ∙ ap₂ ◌+ℤ◌ (total_map f column_of w a) (ap (λ (n : ℕ). total f (λ i. w (n + i)) (map away_of b)) (length-map a column_of) ∙ total_map f away_of (rest w) b)

  differ : (y : Five) (w : ℕ → ℤ) → total (dot5 y) w (columns a b) ≡ dot5 y (totals w a) +ℤ negsuc 0 *ℤ dot5 y (totals (rest w) b)
  differ y w = apart_sums (dot5 y) w ∙ ap₂ ◌+ℤ◌ (along_columns y w a) (along_away y (rest w) b)

  -- weights that touch are weights that take the columns to nothing
  pub null_touch : Null five (columns a b) → Touch a b
  unfolding five
  null_touch n = record {
    u = n.w;
    v = λ i. n.w (length a + i);
    balanced = record {
      sums = (equal (λ (y : Five). none y)).sum;
      xs = (equal (λ (y : Five). none y)).x;
      ys = (equal (λ (y : Five). none y)).y;
      zs = (equal (λ (y : Five). none y)).z;
      times = (equal (λ (y : Five). none y)).time;
    };
    some = half _ _ (equal (λ (y : Five). none y)).sum (subst (λ z. pos 0 <ℤ z) (apart_sums (λ c. pos 1) w) n.some);
  }
    where
      w : ℕ → ℤ
      w i = pos (n.w i)

      none : (y : Five) → dot5 y (totals w a) +ℤ negsuc 0 *ℤ dot5 y (totals (rest w) b) ≡ pos 0
      none y = sym (differ y w) ∙ n.none y

      half : (p q : ℤ) → p ≡ q → pos 0 <ℤ (p +ℤ q) → pos 0 <ℤ p
      half p q e h = let g = of_lt (p ∷ q ∷ []) (search quotes depth 40 fits 9000) h in omega (arith, ord)

  pub touch_null : Touch a b → Null five (columns a b)
  unfolding five
  touch_null t = record { w = c.w; none = none; some = subst (λ z. pos 0 <ℤ z) (sym (apart_sums (λ n. pos 1) w)) (twice _ _ c.level.sums c.some) }
    where
      c : TouchIn a b (λ i. true)
      c = touch_in_is.0 t

      w : ℕ → ℤ
      w i = pos (c.w i)

      one_total : totals w a ≡ totals (rest w) b
      one_total = λ i. record { sum = c.level.sums i; x = c.level.xs i; y = c.level.ys i; z = c.level.zs i; time = c.level.times i }

      gone : (n : ℤ) → n +ℤ negsuc 0 *ℤ n ≡ pos 0
      gone n = ring (n ∷ []) (search quotes depth 40 fits 9000) refl

      none : (y : Five) → total (dot5 y) w (columns a b) ≡ pos 0
      none y = differ y w ∙ ap (λ (v : Five). dot5 y v +ℤ negsuc 0 *ℤ dot5 y (totals (rest w) b)) one_total ∙ gone (dot5 y (totals (rest w) b))

      twice : (p q : ℤ) → p ≡ q → pos 0 <ℤ p → pos 0 <ℤ (p +ℤ q)
      twice p q e h = lt (p ∷ q ∷ []) (search quotes depth 40 fits 9000) (omega (arith, ord))

  -- what does not touch lies on two sides of something, and the other way round
  pub two_sides : ¬ Touch a b → Side five (columns a b)
  two_sides n = go (gordan five (columns a b))
    where
      go : Gordan five (columns a b) → Side five (columns a b)
      go (null m) = absurd (n (null_touch m))
      go (side d) = d

  pub sides_apart : Side five (columns a b) → ¬ Touch a b
  sides_apart d t = never_both five (columns a b) (touch_null t) d

-- ---- blown up and nudged

-- a point, and where it is to be nudged to
pub record Nudged : Type 0 where
  pub event : Event
  pub by : Vector

-- every coordinate p becomes n p + q; the time stays
abbrev pub blown : ℤ → Nudged → Event
blown n e = record { place = plus (scale n e.event.place) e.by; time = e.event.time }

abbrev pub still : Nudged → Event
still e = e.event

-- what a nudge adds along a direction, with the sign of its simplex
abbrev slip : Five → Vector → ℤ
slip y v = y.x *ℤ v.x +ℤ y.y *ℤ v.y +ℤ y.z *ℤ v.z

-- the direction for what is blown up
abbrev turned : ℤ → Five → Five
turned n y = record { sum = n *ℤ y.sum; x = y.x; y = y.y; z = y.z; time = n *ℤ y.time }

module _ (n : ℤ) (y : Five) (e : Nudged) where
  abbrev letters : List ℤ
  letters = n ∷ all5 y ++ (e.event.place.x ∷ e.event.place.y ∷ e.event.place.z ∷ e.event.time ∷ e.by.x ∷ e.by.y ∷ e.by.z ∷ [])

  blown_column : dot5 (turned n y) (column_of (blown n e)) ≡ n *ℤ dot5 y (column_of (still e)) +ℤ slip y e.by
  blown_column = ring letters (search quotes depth 60 fits 90000) refl

  blown_away : dot5 (turned n y) (away_of (blown n e)) ≡ n *ℤ dot5 y (away_of (still e)) +ℤ neg_ℤ (slip y e.by)
  blown_away = ring letters (search quotes depth 60 fits 90000) refl

every_back : {A B : Type 0} (P : B → Type 0) (g : A → B) (l : List A) → Every P (map g l) → Every (λ a. P (g a)) l
every_back P g [] h = tt
every_back P g (a ∷ l) h = (h.0, every_back P g l h.1)

every_parts : {A : Type 0} (P : A → Type 0) (l m : List A) → Every P (l ++ m) → Every P l × Every P m
every_parts P [] m h = (tt, h)
every_parts P (a ∷ l) m h = let r = every_parts P l m h.1 in ((h.0, r.0), r.1)

every_join : {A : Type 0} (P : A → Type 0) (l m : List A) → Every P l → Every P m → Every P (l ++ m)
every_join P [] m h k = k
every_join P (a ∷ l) m h k = (h.0, every_join P l m h.1 k)

-- so from some number on
pub record FromSomeOn (P : ℤ → Type 0) : Type 0 where
  pub n : ℕ
  pub from : (m : ℕ) → n ≤ m → P (pos m)

grown : {A : Type 0} (f g : A → ℤ) (l : List A) (n m : ℕ) → n ≤ m → Every (λ a. pos 0 <ℤ f a) l → Every (λ a. pos 0 <ℤ (pos n *ℤ f a +ℤ g a)) l → Every (λ a. pos 0 <ℤ (pos m *ℤ f a +ℤ g a)) l
grown {A} f g l n m h up k =
    let e : (m - n) + n ≡ m = omega arith in
    subst (λ (i : ℕ). Every (λ a. pos 0 <ℤ (pos i *ℤ f a +ℤ g a)) l) e
    (every_both (λ a. pos 0 <ℤ f a) (λ a. pos 0 <ℤ (pos n *ℤ f a +ℤ g a)) (λ a. pos 0 <ℤ (pos ((m - n) + n) *ℤ f a +ℤ g a))
    (λ a p q. still_outgrows (pos n) (pos (m - n)) (f a) (g a) p (nat_le (m - n)) q) l up k)

module _ (a b : List Nudged) where
  pub sides_stay : Side five (columns (map still a) (map still b)) → FromSomeOn (λ n. Side five (columns (map (blown n) a) (map (blown n) b)))
  unfolding five
  sides_stay d = record { n = ra.n + rb.n; from = from }
    where
      y : Five
      y = d.y

      f : Nudged → ℤ
      f e = dot5 y (column_of (still e))

      g : Nudged → ℤ
      g e = dot5 y (away_of (still e))

      split : Every (λ c. pos 0 <ℤ dot5 y c) (map column_of (map still a)) × Every (λ c. pos 0 <ℤ dot5 y c) (map away_of (map still b))
      split = every_parts (λ c. pos 0 <ℤ dot5 y c) (map column_of (map still a)) (map away_of (map still b)) d.along

      on_a : Every (λ e. pos 0 <ℤ f e) a
      on_a = every_back (λ e. pos 0 <ℤ dot5 y (column_of e)) still a (every_back (λ c. pos 0 <ℤ dot5 y c) column_of (map still a) split.0)

      on_b : Every (λ e. pos 0 <ℤ g e) b
      on_b = every_back (λ e. pos 0 <ℤ dot5 y (away_of e)) still b (every_back (λ c. pos 0 <ℤ dot5 y c) away_of (map still b) split.1)

      ra : Enough f (λ e. slip y e.by) a
      ra = enough f (λ e. slip y e.by) a on_a

      rb : Enough g (λ e. neg_ℤ (slip y e.by)) b
      rb = enough g (λ e. neg_ℤ (slip y e.by)) b on_b

      from : (m : ℕ) → ra.n + rb.n ≤ m → Side five (columns (map (blown (pos m)) a) (map (blown (pos m)) b))
      from m h = record { y = z; along = every_join (λ c. pos 0 <ℤ dot5 z c) (map column_of (map (blown (pos m)) a)) (map away_of (map (blown (pos m)) b)) first second }
        where
          z : Five
          z = turned (pos m) y

          first : Every (λ c. pos 0 <ℤ dot5 z c) (map column_of (map (blown (pos m)) a))
          first =
              every_map (λ c. pos 0 <ℤ dot5 z c) column_of (map (blown (pos m)) a)
              (every_map (λ e. pos 0 <ℤ dot5 z (column_of e)) (blown (pos m)) a
              (every_imp (λ e. pos 0 <ℤ (pos m *ℤ f e +ℤ slip y e.by)) (λ e. pos 0 <ℤ dot5 z (column_of (blown (pos m) e)))
              (λ e p. subst (λ x. pos 0 <ℤ x) (sym (blown_column (pos m) y e)) p) a
              (grown f (λ e. slip y e.by) a ra.n m (omega arith) on_a ra.stretched)))

          second : Every (λ c. pos 0 <ℤ dot5 z c) (map away_of (map (blown (pos m)) b))
          second =
              every_map (λ c. pos 0 <ℤ dot5 z c) away_of (map (blown (pos m)) b)
              (every_map (λ e. pos 0 <ℤ dot5 z (away_of e)) (blown (pos m)) b
              (every_imp (λ e. pos 0 <ℤ (pos m *ℤ g e +ℤ neg_ℤ (slip y e.by))) (λ e. pos 0 <ℤ dot5 z (away_of (blown (pos m) e)))
              (λ e p. subst (λ x. pos 0 <ℤ x) (sym (blown_away (pos m) y e)) p) b
              (grown g (λ e. neg_ℤ (slip y e.by)) b rb.n m (omega arith) on_b rb.stretched)))

  -- what does not touch does not touch blown up far enough, however it is nudged then
  pub untouched_stays : ¬ Touch (map still a) (map still b) → FromSomeOn (λ n. ¬ Touch (map (blown n) a) (map (blown n) b))
  untouched_stays n =
      let r = sides_stay (two_sides (map still a) (map still b) n) in
      record { n = r.n; from = λ m h. sides_apart (map (blown (pos m)) a) (map (blown (pos m)) b) (r.from m h) }
