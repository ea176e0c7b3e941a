-- Space sent through a linear map, with one shift at the start and another at the end: weights go there, and back where the map's determinant is
-- not 0. For points at any time and in lists of any length.
use Rattle.std.specs.Prelude.{◌≡◌, refl, ◌≢◌, List, [], ◌∷◌, map, ℕ, suc, ℤ, pos, ◌+ℤ◌, ◌-ℤ◌, ◌*ℤ◌}
use Rattle.std.proofs.Common.{sym, ◌∙◌, ap, ap₂}
use Rattle.whole.specs.Vector.{Vector, origin, plus, scale}
use Rattle.whole.specs.VectorLaws.{vector_eq, Matrix, apply, det, dot, coordinates}
use Rattle.whole.proofs.VectorLaws.{one_to_one}
use Rattle.whole.specs.Quote.{quotes, ring, combine, times}
use Rattle.meaning.specs.Pieces.{Event}
use Rattle.meaning.specs.Equations.{total, one, x_of, y_of, z_of, time_of, Balanced, Touch}
use Rattle.theory.specs.Totals.{total_map}
use Rattle.theory.specs.Differences.{base_at}

-- the weighted sum of the places
abbrev pub place_total : (ℕ → ℤ) → List Event → Vector
place_total w l = record { x = total x_of w l; y = total y_of w l; z = total z_of w l }

-- the shift at time t goes from a to b
abbrev pub sent : Matrix → Vector → Vector → Event → Event
sent m a b e = record { place = plus (apply m e.place) (base_at a b e.time); time = e.time }

-- what the shifts add to a weighted sum
abbrev pub shifted : Vector → Vector → (ℕ → ℤ) → List Event → Vector
shifted a b w l = plus (scale (total one w l -ℤ total time_of w l) a) (scale (total time_of w l) b)

-- ---- there

step : (r : Vector) (h k w t : ℤ) (p : Vector) (S T : ℤ) (c : Vector) (n : ℤ) → n ≡ dot r c +ℤ ((S -ℤ T) *ℤ h +ℤ T *ℤ k) →
    w *ℤ (dot r p +ℤ ((pos 1 -ℤ t) *ℤ h +ℤ t *ℤ k)) +ℤ n ≡ dot r (plus (scale w p) c) +ℤ (((w *ℤ pos 1 +ℤ S) -ℤ (w *ℤ t +ℤ T)) *ℤ h +ℤ (w *ℤ t +ℤ T) *ℤ k)
step r h k w t p S T c n e =
    combine (h ∷ k ∷ w ∷ t ∷ S ∷ T ∷ n ∷ coordinates (r ∷ p ∷ c ∷ [])) (times (pos 1) e ∷ []) (search quotes depth 40 fits 9000) refl

none : (r : Vector) (h k : ℤ) → pos 0 ≡ dot r origin +ℤ ((pos 0 -ℤ pos 0) *ℤ h +ℤ pos 0 *ℤ k)
none r h k = ring (h ∷ k ∷ coordinates (r ∷ [])) (search quotes depth 40 fits 9000) refl

pub along : (r : Vector) (h k : ℤ) (w : ℕ → ℤ) (l : List Event) → total (λ (e : Event). dot r e.place +ℤ ((pos 1 -ℤ e.time) *ℤ h +ℤ e.time *ℤ k)) w l ≡ dot r (place_total w l) +ℤ ((total one w l -ℤ total time_of w l) *ℤ h +ℤ total time_of w l *ℤ k)
unfolding total
along r h k w [] = none r h k
along r h k w (e ∷ l) =
    let w' : ℕ → ℤ = λ i. w (suc i) in
    step r h k (w 0) e.time e.place (total one w' l) (total time_of w' l) (place_total w' l) _ (along r h k w' l)

unshift : (c a b : ℤ) → a +ℤ c ≡ b +ℤ c → a ≡ b
unshift c a b h = combine (a ∷ b ∷ c ∷ []) (times (pos 1) h ∷ []) (search quotes depth 40 fits 9000) refl

pub unshifted : (c a b : Vector) → plus a c ≡ plus b c → a ≡ b
unshifted c a b h =
    vector_eq (unshift c.x a.x b.x (ap (λ (v : Vector). v.x) h)) (unshift c.y a.y b.y (ap (λ (v : Vector). v.y) h))
    (unshift c.z a.z b.z (ap (λ (v : Vector). v.z) h))

-- weights balance exactly when the sums, the times and the places do
module _ (f g : List Event) (u v : ℕ → ℤ) where
  pub by_places : total one u f ≡ total one v g → total time_of u f ≡ total time_of v g → place_total u f ≡ place_total v g → Balanced f g u v
  by_places s t p = record {
    sums = s;
    xs = ap (λ (c : Vector). c.x) p;
    ys = ap (λ (c : Vector). c.y) p;
    zs = ap (λ (c : Vector). c.z) p;
    times = t;
  }

  pub same_places : Balanced f g u v → place_total u f ≡ place_total v g
  same_places h = vector_eq h.xs h.ys h.zs

  pub same_shift : (a b : Vector) → total one u f ≡ total one v g → total time_of u f ≡ total time_of v g → shifted a b u f ≡ shifted a b v g
  same_shift a b s t = rw (s, t)

module _ (m : Matrix) (a b : Vector) where
  abbrev pub there : List Event → List Event
  there l = map (sent m a b) l

  pub sums_sent : (w : ℕ → ℤ) (l : List Event) → total one w (there l) ≡ total one w l
  sums_sent w l = total_map one (sent m a b) w l

  pub times_sent : (w : ℕ → ℤ) (l : List Event) → total time_of w (there l) ≡ total time_of w l
  times_sent w l = total_map time_of (sent m a b) w l

  pub places_sent : (w : ℕ → ℤ) (l : List Event) → place_total w (there l) ≡ plus (apply m (place_total w l)) (shifted a b w l)
  places_sent w l =
      vector_eq (total_map x_of (sent m a b) w l ∙ along m.a a.x b.x w l) (total_map y_of (sent m a b) w l ∙ along m.b a.y b.y w l)
      (total_map z_of (sent m a b) w l ∙ along m.c a.z b.z w l)

  module _ (f g : List Event) (u v : ℕ → ℤ) where
    pub balanced_there : Balanced f g u v → Balanced (there f) (there g) u v
    balanced_there h =
        by_places (there f) (there g) u v (sums_sent u f ∙ h.sums ∙ sym (sums_sent v g)) (times_sent u f ∙ h.times ∙ sym (times_sent v g))
        (places_sent u f ∙ ap₂ (λ (p q : Vector). plus (apply m p) q) (same_places f g u v h) (same_shift f g u v a b h.sums h.times)
        ∙ sym (places_sent v g))

    pub balanced_back : det m ≢ pos 0 → Balanced (there f) (there g) u v → Balanced f g u v
    balanced_back nonzero h =
        let s : total one u f ≡ total one v g = sym (sums_sent u f) ∙ h.sums ∙ sums_sent v g in
        let t : total time_of u f ≡ total time_of v g = sym (times_sent u f) ∙ h.times ∙ times_sent v g in
        by_places f g u v s t
        (one_to_one m _ _ nonzero
        (unshifted (shifted a b v g) _ _
        (ap (plus (apply m (place_total u f))) (sym (same_shift f g u v a b s t)) ∙ sym (places_sent u f)
        ∙ same_places (there f) (there g) u v h ∙ places_sent v g)))

  module _ (f g : List Event) where
    pub touch_there : Touch f g → Touch (there f) (there g)
    touch_there t = record {
      u = t.u;
      v = t.v;
      balanced = balanced_there f g _ _ t.balanced;
      some = rw sums_sent t.some;
    }

    pub touch_back : det m ≢ pos 0 → Touch (there f) (there g) → Touch f g
    touch_back nonzero t = record {
      u = t.u;
      v = t.v;
      balanced = balanced_back f g _ _ nonzero t.balanced;
      some = rw sums_sent at t.some;
    }
