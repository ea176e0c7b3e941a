-- A piece with time 1 - t for t, and the points of each simplex from last to first, touches and is degenerate where it did and was. Weights stay: the
-- weighted time is their sum less what it was. The differences of the four others stay, with the base's end for its start.
use Rattle.std.specs.Prelude.{◌≡◌, refl, ◌↔◌, ℕ, ℤ, pos, negsuc, ◌+ℤ◌, ◌-ℤ◌, ◌*ℤ◌}
use Rattle.std.proofs.Common.{sym, ◌∙◌, ap, ap₂, subst, subst₂}
use mathlib.Core.Logic.Iff
use mathlib.Core.List.{List, [], ◌∷◌, ◌++◌, map, reverse, reverse-cons, append-nil}
use Rattle.std.proofs.lemmas.List.{length-map}
use Rattle.whole.specs.Vector.{Vector}
use Rattle.whole.specs.VectorLaws.{vector_eq}
use Rattle.whole.specs.Quote.{quotes, ring}
use Rattle.whole.specs.Cramer.{Four, each, volumes}
use Rattle.meaning.specs.Scene.{Scene}
use Rattle.meaning.specs.Pieces.{Event, Piece, piece_of}
use Rattle.meaning.specs.Equations.{one, x_of, y_of, z_of, time_of, total, Touch, determinant_of}
use Rattle.meaning.specs.Backwards.{time_turned, played_back}
use Rattle.meaning.specs.declared.Kind.{Kind}
use Rattle.theory.specs.Alike.{Alike, alike_then}
use Rattle.theory.specs.Bridge.{singular_is}
use Rattle.theory.specs.Determinants.{front, behind}
use Rattle.theory.specs.Differences.{difference, differences, Form, alone, around, formed}
use Rattle.theory.specs.MovingParts.{mapped}
use Rattle.theory.specs.RationalVerdicts.{OfForm, piece_form}
use Rattle.theory.specs.Rearranged.{Rearranged, unmoved, moved, also, rearranged_behind, passes}
use Rattle.theory.specs.SamePoints.{SamePoints, points_of, vanish_together, determinant_same_points, same_points_alike, six_points}
use Rattle.theory.specs.Spread.{factor}
use Rattle.theory.specs.Totals.{total_same, total_plus, total_times, total_map}

-- ---- weights

less : (t : ℤ) → pos 1 -ℤ t ≡ pos 1 +ℤ negsuc 0 *ℤ t
less t = ring (t ∷ []) (search quotes depth 40 fits 9000) refl

time_total : (w : ℕ → ℤ) (l : List Event) → total time_of w (map time_turned l) ≡ total one w l +ℤ negsuc 0 *ℤ total time_of w l
time_total w l =
    total_map time_of time_turned w l
    ∙ total_same (λ e. pos 1 -ℤ time_of e) (λ e. one e +ℤ negsuc 0 *ℤ time_of e) w l (λ e. less (time_of e))
    ∙ total_plus one (λ e. negsuc 0 *ℤ time_of e) w l
    ∙ ap (λ z. total one w l +ℤ z) (total_times (negsuc 0) time_of w l)

pub touch_turned : (a b : List Event) → Touch a b → Touch (map time_turned a) (map time_turned b)
touch_turned a b t = record {
  u = t.u;
  v = t.v;
  balanced = record {
    sums = same one t.balanced.sums;
    xs = same x_of t.balanced.xs;
    ys = same y_of t.balanced.ys;
    zs = same z_of t.balanced.zs;
    times =
        time_total u a ∙ ap₂ (λ x y. x +ℤ negsuc 0 *ℤ y) t.balanced.sums t.balanced.times ∙ sym (time_total v b);
  };
  some = rw (total_map one time_turned u a) t.some;
}
  where
    u : ℕ → ℤ
    u i = pos (t.u i)

    v : ℕ → ℤ
    v i = pos (t.v i)

    same : (f : Event → ℤ) → total (λ e. f (time_turned e)) u a ≡ total (λ e. f (time_turned e)) v b
        → total f u (map time_turned a) ≡ total f v (map time_turned b)
    same f e = total_map f time_turned u a ∙ e ∙ sym (total_map f time_turned v b)

-- ---- turned twice

back : (t : ℤ) → pos 1 -ℤ (pos 1 -ℤ t) ≡ t
back t = ring (t ∷ []) (search quotes depth 40 fits 9000) refl

pub turned_twice : (l : List Event) → map time_turned (map time_turned l) ≡ l
turned_twice [] = refl
turned_twice (e ∷ l) = λ i. record { place = e.place; time = back e.time i } ∷ turned_twice l i

pub touch_both : (a b : List Event) → Touch a b ↔ Touch (map time_turned a) (map time_turned b)
touch_both a b = (
  touch_turned a b,
  λ t. subst₂ Touch (turned_twice a) (turned_twice b) (touch_turned (map time_turned a) (map time_turned b) t),
)

-- ---- the determinant

from_the_end : (a p q t : ℤ) → a -ℤ ((pos 1 -ℤ (pos 1 -ℤ t)) *ℤ q +ℤ (pos 1 -ℤ t) *ℤ p) ≡ a -ℤ ((pos 1 -ℤ t) *ℤ p +ℤ t *ℤ q)
from_the_end a p q t = ring (a ∷ p ∷ q ∷ t ∷ []) (search quotes depth 40 fits 9000) refl

-- from the base's end, back in time, the difference is the same
difference_turned : (p q : Vector) (e : Event) → difference q p (time_turned e) ≡ difference p q e
difference_turned p q e =
    vector_eq (from_the_end e.place.x p.x q.x e.time) (from_the_end e.place.y p.y q.y e.time)
    (from_the_end e.place.z p.z q.z e.time)

differences_turned : (p q : Vector) (o : Four Event) → differences q p (each time_turned o) ≡ differences p q o
differences_turned p q o = λ i. record {
  v0 = difference_turned p q o.v0 i;
  v1 = difference_turned p q o.v1 i;
  v2 = difference_turned p q o.v2 i;
  v3 = difference_turned p q o.v3 i;
}

-- the base's two points change places
formed_turned : (form : Form) (p q : Vector) (o : Four Event) → SamePoints (mapped time_turned (formed form p q o)) (formed form q p (each time_turned o))
unfolding formed
formed_turned alone p q o = record { first = moved front unmoved; second = unmoved }
formed_turned around p q o = record { first = moved front (moved (behind front) (moved front unmoved)); second = unmoved }

six_turned : (form : Form) (p q : Vector) (o : Four Event) → points_of (mapped time_turned (formed form p q o)) ≡ 6
unfolding formed
six_turned alone p q o = refl
six_turned around p q o = refl

singular_turned : (form : Form) (p q : Vector) (o : Four Event)
    → (determinant_of (formed form p q o) ≡ pos 0) ↔ (determinant_of (mapped time_turned (formed form p q o)) ≡ pos 0)
singular_turned form p q o =
    Iff.trans (singular_is form p q o)
    (Iff.trans (subst (λ (d : Four Vector). (factor form (volumes d) ≡ pos 0) ↔ (determinant_of (formed form q p (each time_turned o)) ≡ pos 0)) (differences_turned p q o)
    (Iff.symm (singular_is form q p (each time_turned o))))
    (Iff.symm (vanish_together _ _ (determinant_same_points _ _ (formed_turned form p q o) (six_turned form p q o)))))

-- ---- a piece of a scene

pub alike_turned : {p : Piece} → OfForm p → Alike p (mapped time_turned p)
alike_turned {p} f = record {
  vanishes =
      subst (λ (x : Piece). (determinant_of x ≡ pos 0) ↔ (determinant_of (mapped time_turned x) ≡ pos 0)) f.is
      (singular_turned f.form f.start f.end f.others);
  touches = touch_both p.first p.second;
}

pub from_last : (l : List Event) → Rearranged l (reverse l)
from_last [] = unmoved
from_last (e ∷ l) =
    rw (reverse-cons e l)
    (also (rearranged_behind e (from_last l))
    (subst (λ (k : List Event). Rearranged (e ∷ k) (reverse l ++ (e ∷ []))) (append-nil (reverse l)) (passes e (reverse l) [])))

pub piece_played_back : (s : Scene) (kind : Kind) (i j k : ℕ) → Alike (piece_of s kind i j k) (played_back (piece_of s kind i j k))
piece_played_back s kind i j k =
    let p = piece_of s kind i j k in
    alike_then (alike_turned (piece_form s kind i j k))
    (same_points_alike (mapped time_turned p) (played_back p) (record { first = from_last _; second = from_last _ }) (six_mapped p ∙ six_points s kind i j k))
  where
    six_mapped : (p : Piece) → points_of (mapped time_turned p) ≡ points_of p
    six_mapped p = simp length-map
