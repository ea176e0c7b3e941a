-- Two corners as base, one at the start and one at the end, and the four others. Numbers for all six make the five sums 0 exactly when
-- each base has what is left at its time and the numbers of the four combine their differences to the origin.
use Rattle.std.specs.Prelude.{ℕ, ◌<◌, ◌≡◌, refl, ◌⊎◌, Bool, false, List, [], ◌∷◌, ◌++◌, ℤ, pos, negsuc, neg_ℤ, ◌+ℤ◌, ◌-ℤ◌, ◌*ℤ◌, length, get_or}
use Rattle.std.proofs.Common.{sym, ◌∙◌, ap, subst, inl, inr, ⊎_elim}
use Rattle.std.proofs.Math.IntN.{zero-*ℤ, *ℤ-zero}
use Rattle.whole.specs.Vector.{Vector, origin}
use Rattle.whole.specs.VectorLaws.{vector_eq}
use Rattle.whole.specs.Quote.{quotes, ring, combine, times}
use Rattle.whole.specs.Cramer.{Four, each, weigh, all, dot4, Place, p0, p1, p2, p3, pick}
use Rattle.meaning.specs.Pieces.{Event}
use Rattle.meaning.specs.Equations.{total}
use Rattle.theory.specs.Differences.{differences}
use Rattle.theory.specs.Spread.{start_share, end_share, times_of}
use Rattle.corner_laws.specs.Level.{Measure, ones, in_x, in_y, in_z, in_time, read}
use Rattle.corner_laws.specs.Signed.{Nought}
use Rattle.corner_laws.specs.Others.{Order, Stands, at_first, at_second, among}

-- ---- on plain numbers: those of the bases at the start and at the end, of the four others, the times of the four, and a measure of all

module _ (ns ne : ℤ) (n t f : Four ℤ) where
  abbrev letters : List ℤ
  letters = ns ∷ ne ∷ all n ++ all t ++ all f

  abbrev sums : ℤ → ℤ → ℤ
  sums p q = ns *ℤ p +ℤ ne *ℤ q +ℤ n.v0 *ℤ f.v0 +ℤ n.v1 *ℤ f.v1 +ℤ n.v2 *ℤ f.v2 +ℤ n.v3 *ℤ f.v3

  abbrev off : ℤ → ℤ → ℤ
  off p q = dot4 n (record { v0 = less t.v0 f.v0; v1 = less t.v1 f.v1; v2 = less t.v2 f.v2; v3 = less t.v3 f.v3 })
    where
      less : ℤ → ℤ → ℤ
      less t f = f -ℤ ((pos 1 -ℤ t) *ℤ p +ℤ t *ℤ q)

  abbrev rest : ℤ
  rest = neg_ℤ (dot4 n (each (λ t. pos 1 -ℤ t) t))

  sums_off : (p q : ℤ) → ns ≡ rest → ne ≡ neg_ℤ (dot4 n t) → sums p q ≡ off p q
  sums_off p q h k = combine (p ∷ q ∷ letters) (times p h ∷ times q k ∷ []) (search quotes depth 60 fits 90000) refl

-- the equations of sums and times give the bases their numbers
module _ (ns ne : ℤ) (n t : Four ℤ) (ts te : ℤ) (h : ts ≡ pos 0) (k : te ≡ pos 1) where
  abbrev unit : Four ℤ
  unit = record { v0 = pos 1; v1 = pos 1; v2 = pos 1; v3 = pos 1 }

  abbrev known : List ℤ
  known = ts ∷ te ∷ ns ∷ ne ∷ all n ++ all t

  end_number : sums ns ne n t t ts te ≡ pos 0 → ne ≡ neg_ℤ (dot4 n t)
  end_number e = combine known (times (pos 1) e ∷ times (neg_ℤ ns) h ∷ times (neg_ℤ ne) k ∷ []) (search quotes depth 60 fits 90000) refl

  start_number : sums ns ne n t unit (pos 1) (pos 1) ≡ pos 0 → sums ns ne n t t ts te ≡ pos 0 → ns ≡ rest ns ne n t t
  start_number d e = combine known (times (pos 1) d ∷ times (negsuc 0) e ∷ times ns h ∷ times ne k ∷ []) (search quotes depth 60 fits 90000) refl

  no_ones : off ns ne n t unit (pos 1) (pos 1) ≡ pos 0
  no_ones = ring known (search quotes depth 60 fits 90000) refl

  no_times : off ns ne n t t ts te ≡ pos 0
  no_times = combine known (times (neg_ℤ (dot4 n (each (λ t. pos 1 -ℤ t) t))) h ∷ times (neg_ℤ (dot4 n t)) k ∷ []) (search quotes depth 60 fits 90000) refl

-- ---- on the corners

abbrev pub nowhere : Event
nowhere = record { place = origin; time = pos 0 }

abbrev pub event_in : List Event → ℕ → Event
event_in l i = get_or l i nowhere

-- a base at the start and one at the end among six corners, and the four others
pub record Based (l : List Event) (s e : ℕ) (q : Four ℕ) : Type 0 where
  pub six : length l ≡ 6
  pub order : Order s e q
  pub starts : (event_in l s).time ≡ pos 0
  pub ends : (event_in l e).time ≡ pos 1

abbrev pub others_in : List Event → Four ℕ → Four Event
others_in l q = each (event_in l) q

abbrev pub differences_in : List Event → ℕ → ℕ → Four ℕ → Four Vector
differences_in l s e q = differences (event_in l s).place (event_in l e).place (others_in l q)

-- the bases have what is left at their times
pub record Remains (l : List Event) (s e : ℕ) (q : Four ℕ) (n : ℕ → ℤ) : Type 0 where
  pub start : n s ≡ neg_ℤ (start_share (others_in l q) (each n q))
  pub end : n e ≡ neg_ℤ (end_share (others_in l q) (each n q))

module _ {l : List Event} {s e : ℕ} {q : Four ℕ} (b : Based l s e q) (n : ℕ → ℤ) where
  abbrev t : Four ℤ
  t = times_of (others_in l q)

  abbrev summed : Measure → ℤ
  summed m = sums (n s) (n e) (each n q) t (each (read m) (others_in l q)) (read m (event_in l s)) (read m (event_in l e))

  abbrev differing : Measure → ℤ
  differing m = off (n s) (n e) (each n q) t (each (read m) (others_in l q)) (read m (event_in l s)) (read m (event_in l e))

  over : (m : Measure) → total (read m) n l ≡ summed m
  over m = b.order.sums (read m) n l nowhere b.six

  same : n s ≡ neg_ℤ (start_share (others_in l q) (each n q)) → n e ≡ neg_ℤ (end_share (others_in l q) (each n q)) → (m : Measure) → summed m ≡ differing m
  same h k m = sums_off (n s) (n e) (each n q) t (each (read m) (others_in l q)) (read m (event_in l s)) (read m (event_in l e)) h k

  pub remains_flat : Nought l n → Remains l s e q n × (weigh (each n q) (differences_in l s e q) ≡ origin)
  remains_flat h = (record { start = start; end = end }, vector_eq (level in_x) (level in_y) (level in_z))
    where
      is : (m : Measure) → summed m ≡ pos 0
      is m = sym (over m) ∙ h.sum m

      start : n s ≡ neg_ℤ (start_share (others_in l q) (each n q))
      start = start_number (n s) (n e) (each n q) t _ _ b.starts b.ends (is ones) (is in_time)

      end : n e ≡ neg_ℤ (end_share (others_in l q) (each n q))
      end = end_number (n s) (n e) (each n q) t _ _ b.starts b.ends (is in_time)

      level : (m : Measure) → differing m ≡ pos 0
      level m = sym (same start end m) ∙ is m

  pub nought_by : Remains l s e q n → weigh (each n q) (differences_in l s e q) ≡ origin → Nought l n
  nought_by r h = record { sum = λ m. over m ∙ same r.start r.end m ∙ none m }
    where
      none : (m : Measure) → differing m ≡ pos 0
      none ones = no_ones (n s) (n e) (each n q) t _ _ b.starts b.ends
      none in_x = ap (λ (v : Vector). v.x) h
      none in_y = ap (λ (v : Vector). v.y) h
      none in_z = ap (λ (v : Vector). v.z) h
      none in_time = no_times (n s) (n e) (each n q) t _ _ b.starts b.ends

-- ---- corners left out

-- a base is left out only where every corner of its time is
pub record Preferred (l : List Event) (left : ℕ → Bool) (s e : ℕ) (q : Four ℕ) : Type 0 where
  pub start : left s ≡ false → (k : Place) → (left (pick k q) ≡ false) ⊎ ((event_in l (pick k q)).time ≡ pos 1)
  pub end : left e ≡ false → (k : Place) → (left (pick k q) ≡ false) ⊎ ((event_in l (pick k q)).time ≡ pos 0)

pub pick_each : {A B : Type 0} (g : A → B) (v : Four A) (k : Place) → pick k (each g v) ≡ g (pick k v)
pick_each g v p0 = refl
pick_each g v p1 = refl
pick_each g v p2 = refl
pick_each g v p3 = refl

dot_none : (n t : Four ℤ) → ((k : Place) → (pick k n ≡ pos 0) ⊎ (pick k t ≡ pos 0)) → dot4 n t ≡ pos 0
dot_none n t h = rw (term p0, term p1, term p2, term p3)
  where
    gone : (x y : ℤ) → (x ≡ pos 0) ⊎ (y ≡ pos 0) → x *ℤ y ≡ pos 0
    gone x y (inl e) = ap (λ z. z *ℤ y) e ∙ zero-*ℤ y
    gone x y (inr e) = ap (λ z. x *ℤ z) e ∙ *ℤ-zero x

    term : (k : Place) → pick k n *ℤ pick k t ≡ pos 0
    term k = gone (pick k n) (pick k t) (h k)

module _ {l : List Event} {left : ℕ → Bool} {s e : ℕ} {q : Four ℕ} (o : Order s e q) (p : Preferred l left s e q) (n : ℕ → ℤ) (r : Remains l s e q n) (out : (k : Place) → left (pick k q) ≡ false → n (pick k q) ≡ pos 0) where
  pub none_out : (i : ℕ) → i < 6 → left i ≡ false → n i ≡ pos 0
  none_out i h g = at (o.stands i h)
    where
      share : (f : ℕ → ℤ) → ((k : Place) → (left (pick k q) ≡ false) ⊎ (f (pick k q) ≡ pos 0)) → neg_ℤ (dot4 (each n q) (each f q)) ≡ pos 0
      share f w = ap neg_ℤ (dot_none (each n q) (each f q)
          (λ k. ⊎_elim (λ z. inl (pick_each n q k ∙ out k z)) (λ z. inr (pick_each f q k ∙ z)) (w k)))

      base : {j : ℕ} → i ≡ j → left j ≡ false
      base f = subst (λ j. left j ≡ false) f g

      at : Stands s e q i → n i ≡ pos 0
      at (at_first f) = ap n f ∙ r.start
          ∙ share (λ j. pos 1 -ℤ (event_in l j).time) (λ k. ⊎_elim inl (λ z. inr (ap (λ t. pos 1 -ℤ t) z)) (p.start (base f) k))
      at (at_second f) = ap n f ∙ r.end ∙ share (λ j. (event_in l j).time) (p.end (base f))
      at (among k f) = ap n f ∙ out k (base f)
