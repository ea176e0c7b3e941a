-- Events that all stand at one time have weights exactly when their places have, whatever that time is: the weighted times are the time as
-- often as the weights sum to, so that they agree by themselves.
use Rattle.std.specs.Prelude.{◌≡◌, ◌↔◌, List, [], ◌∷◌, map, ℕ, ℤ, pos, ◌*ℤ◌}
use Rattle.std.proofs.Math.Path.{refl}
use Rattle.std.proofs.Common.{sym, ◌∙◌, ap}
use Rattle.whole.specs.Vector.{Vector}
use Rattle.meaning.specs.Scene.{Scene, edge_end, corner}
use Rattle.meaning.specs.Pieces.{Event}
use Rattle.meaning.specs.Equations.{one, x_of, y_of, z_of, time_of, total, Touch}
use Rattle.meaning.specs.Motion.{Together}
use Rattle.meaning.specs.Near.{where_at}
use Rattle.meaning.specs.Pierced.{stands_at, Pierced}
use Rattle.meaning.specs.declared.Frame.{Frame}
use Rattle.meaning.specs.declared.Frame.TheVariants.{Start, End}
use Rattle.theory.specs.Totals.{total_map, total_constant}

-- a place at the time t
abbrev pub standing : ℤ → Vector → Event
standing t p = record { place = p; time = t }

module _ (t : ℤ) (a b : List Vector) where
  abbrev there : List Vector → List Event
  there l = map (standing t) l

  over : (f : Event → ℤ) (u v : ℕ → ℤ) → total (λ (p : Vector). f (standing t p)) u a ≡ total (λ (p : Vector). f (standing t p)) v b
      → total f u (there a) ≡ total f v (there b)
  over f u v e = total_map f (standing t) u a ∙ e ∙ sym (total_map f (standing t) v b)

  back : (f : Event → ℤ) (u v : ℕ → ℤ) → total f u (there a) ≡ total f v (there b)
      → total (λ (p : Vector). f (standing t p)) u a ≡ total (λ (p : Vector). f (standing t p)) v b
  back f u v e = sym (total_map f (standing t) u a) ∙ e ∙ total_map f (standing t) v b

  times_agree : (u v : ℕ → ℤ) → total (λ (p : Vector). pos 1) u a ≡ total (λ (p : Vector). pos 1) v b
      → total (λ (p : Vector). t) u a ≡ total (λ (p : Vector). t) v b
  times_agree u v e = total_constant t u a ∙ ap (λ n. t *ℤ n) e ∙ sym (total_constant t v b)

  pub together_touch : Together a b ↔ Touch (map (standing t) a) (map (standing t) b)
  together_touch = (
    λ c. record {
      u = c.u;
      v = c.v;
      balanced = record {
        sums = over one _ _ c.sums;
        xs = over x_of _ _ c.xs;
        ys = over y_of _ _ c.ys;
        zs = over z_of _ _ c.zs;
        times = over time_of _ _ (times_agree _ _ c.sums);
      };
      some = rw (total_map one (standing t)) c.some;
    },
    λ c. record {
      u = c.u;
      v = c.v;
      some = rw (total_map one (standing t)) at c.some;
      sums = back one _ _ c.balanced.sums;
      xs = back x_of _ _ c.balanced.xs;
      ys = back y_of _ _ c.balanced.ys;
      zs = back z_of _ _ c.balanced.zs;
    },
  )

-- ---- of an edge and a triangle

unfoldable time_at : Frame → ℤ
time_at Start = pos 0
time_at End = pos 1

-- the places of the edge's ends and of the triangle's corners at that time
abbrev pub end_places : Scene → Frame → ℕ → List Vector
end_places s f i = where_at f s (edge_end s i 0) ∷ where_at f s (edge_end s i 1) ∷ []

abbrev pub corner_places : Scene → Frame → ℕ → List Vector
corner_places s f j = where_at f s (corner s j 0) ∷ where_at f s (corner s j 1) ∷ where_at f s (corner s j 2) ∷ []

module _ (s : Scene) (f : Frame) (i j : ℕ) where
  stands : (f : Frame) (v : ℕ) → standing (time_at f) (where_at f s v) ≡ stands_at f s.positions v
  unfolding where_at time_at stands_at
  stands Start v = refl
  stands End v = refl

  ends_stand : map (standing (time_at f)) (end_places s f i) ≡ map (stands_at f s.positions) (edge_end s i 0 ∷ edge_end s i 1 ∷ [])
  ends_stand = λ k. stands f (edge_end s i 0) k ∷ stands f (edge_end s i 1) k ∷ []

  corners_stand : map (standing (time_at f)) (corner_places s f j) ≡ map (stands_at f s.positions) (corner s j 0 ∷ corner s j 1 ∷ corner s j 2 ∷ [])
  corners_stand = λ k. stands f (corner s j 0) k ∷ stands f (corner s j 1) k ∷ stands f (corner s j 2) k ∷ []

  -- pierced is, in the words of straight motion, together: no time is left in it
  pub pierced_together : Pierced s f i j ↔ Together (end_places s f i) (corner_places s f j)
  pierced_together =
      let same : Together (end_places s f i) (corner_places s f j) ↔ Pierced s f i j =
      rw (ends_stand, corners_stand) at (together_touch (time_at f) (end_places s f i) (corner_places s f j)) in
      (same.1, same.0)
