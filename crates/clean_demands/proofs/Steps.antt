-- From step to step of a series: what is clean at the end of one step is clean at the start of the next, so every frame is clean.
use Rattle.std.specs.Prelude.{ℕ, ◌+◌, ◌*◌, ◌/◌, ◌<◌, ◌≡◌, refl, false, leb, ℤ, pos, length, get_or}
use Rattle.std.proofs.Common.{arith, sym, ◌∙◌, subst, ⊎_elim, leb-false}
use Rattle.std.proofs.Math.Path.{ap}
use mathlib.Core.List.Memᴰ
use mathlib.Core.List.{List, [], ◌∷◌, Memᴰ}
use Rattle.meaning.specs.Scene.{Scene, scene_of, start_of, end_of, vertex_count, edge_count, triangle_count, edge_end, corner, counts_as}
use Rattle.meaning.specs.Near.{where_at}
use Rattle.meaning.specs.Pierced.{Pierced, no_edge_or_triangle, end_is_corner}
use Rattle.meaning.specs.Refusals.{shares}
use Rattle.meaning.specs.Series.{Series, step_after, steps_from, last_from, steps_of, goes_on}
use Rattle.meaning.specs.declared.Frame.TheVariants.{Start, End}
use Rattle.answers.specs.Below.{or_left, or_rest}
use Rattle.series_laws.specs.Longer.{next_steps, steps_append}
use Rattle.series_laws.specs.Stepping.{step_at, step_edges, step_triangles, step_seams}
use Rattle.pierced_laws.specs.OneTime.{end_places, corner_places, pierced_together}
use Rattle.clean_demands.specs.Sides.{Between, along, against}
use Rattle.clean_demands.specs.Mesh.{WellMade, EdgeBetween, SidesAreEdges, CleanAt}
use Rattle.clean_demands.proofs.Mesh.{clean_at_the_end}
use Rattle.clean_demands.specs.Steps.{GoesOn, InTurn, last, next, UntouchedStep, CleanStep, EachStep}

module _ {s t : Scene} (on : GoesOn s t) where
  end_stays : (i k : ℕ) → edge_end t i k ≡ edge_end s i k
  end_stays i k = ap (λ (l : List ℕ). get_or l (2 * i + k) 0) on.edges

  corner_stays : (j k : ℕ) → corner t j k ≡ corner s j k
  corner_stays j k = ap (λ (l : List ℕ). get_or l (3 * j + k) 0) on.triangles

  counts_stay : (v : ℕ) → counts_as t v ≡ counts_as s v
  counts_stay v = ap (λ (l : List ℕ). counts_as (scene_of [] [] [] l) v) on.seams

  asked_stays : (i j : ℕ) → no_edge_or_triangle t i j ≡ no_edge_or_triangle s i j
  asked_stays i j = rw (on.edges, on.triangles)

  apart_stays : (i j : ℕ) → end_is_corner t i j ≡ end_is_corner s i j
  unfolding shares
  apart_stays i j = rw (on.edges, on.triangles, on.seams)

  edges_many : edge_count t ≡ edge_count s
  edges_many = ap (λ (l : List ℕ). length l / 2) on.edges

  triangles_many : triangle_count t ≡ triangle_count s
  triangles_many = ap (λ (l : List ℕ). length l / 3) on.triangles

  -- the sides are the same edges
  side_stays : (a b c d : ℕ) → c ≡ a → d ≡ b → EdgeBetween s a b → EdgeBetween t c d
  side_stays a b c d ca db e = record { edge = e.edge; there = rw edges_many e.there; between = go e.between }
    where
      counts : (k v w : ℕ) → w ≡ v → counts_as s (edge_end s e.edge k) ≡ counts_as s v → counts_as t (edge_end t e.edge k) ≡ counts_as t w
      counts k v w same h = counts_stay (edge_end t e.edge k) ∙ ap (counts_as s) (end_stays e.edge k) ∙ h ∙ ap (counts_as s) (sym same) ∙ sym (counts_stay w)

      go : Between s e.edge a b → Between t e.edge c d
      go (along h k) = along (counts 0 a c ca h) (counts 1 b d db k)
      go (against h k) = against (counts 0 b d db h) (counts 1 a c ca k)

  pub sides_stay : SidesAreEdges s → SidesAreEdges t
  sides_stay e = record {
    first = λ j h. side_stays _ _ _ _ (corner_stays j 0) (corner_stays j 1) (e.first j (rw triangles_many at h));
    second = λ j h. side_stays _ _ _ _ (corner_stays j 1) (corner_stays j 2) (e.second j (rw triangles_many at h));
    third = λ j h. side_stays _ _ _ _ (corner_stays j 2) (corner_stays j 0) (e.third j (rw triangles_many at h));
  }

  -- the end of one step is the start of the next
  module _ (well : WellMade s) where
    next_place : (v w : ℕ) → v ≡ w → w < vertex_count s → where_at Start t v ≡ where_at End s w
    unfolding where_at
    next_place v w e h = ap (start_of t) e ∙ on.places w h

    next_pierced : (i j : ℕ) → i < edge_count s → j < triangle_count s → Pierced t Start i j → Pierced s End i j
    next_pierced i j edge triangle p =
        let end : (k : ℕ) → k < 2 → where_at Start t (edge_end t i k) ≡ where_at End s (edge_end s i k) = λ k l. next_place (edge_end t i k) (edge_end s i k) (end_stays i k) (well.ends i k edge l) in
        let at : (k : ℕ) → k < 3 → where_at Start t (corner t j k) ≡ where_at End s (corner s j k) = λ k l. next_place (corner t j k) (corner s j k) (corner_stays j k) (well.corners j k triangle l) in
        let ends : end_places t Start i ≡ end_places s End i = λ n. end 0 (omega arith) n ∷ end 1 (omega arith) n ∷ [] in
        let corners : corner_places t Start j ≡ corner_places s End j = λ n. at 0 (omega arith) n ∷ at 1 (omega arith) n ∷ at 2 (omega arith) n ∷ [] in
        (pierced_together s End i j).1 (rw (ends, corners) at ((pierced_together t Start i j).0 p))

    pub clean_goes_on : CleanAt s End → CleanAt t Start
    clean_goes_on clean = record {
      none = λ i j there apart p.
          let here : no_edge_or_triangle s i j ≡ false = sym (asked_stays i j) ∙ there in
          let edge : i < edge_count s = leb-false (edge_count s) i (or_left (leb (edge_count s) i) (leb (triangle_count s) j) here) in
          let triangle : j < triangle_count s = leb-false (triangle_count s) j (or_rest (leb (edge_count s) i) (leb (triangle_count s) j) here) in
          clean.none i j here (sym (apart_stays i j) ∙ apart) (next_pierced i j edge triangle p);
    }

pub every_frame_clean : {s : Scene} {more : List Scene} → InTurn s more → SidesAreEdges s → EachStep UntouchedStep (s ∷ more) → CleanAt s Start → EachStep CleanStep (s ∷ more)
every_frame_clean {s} last sides all clean t m =
    ⊎_elim (λ e. subst CleanStep (sym e) (record { start = clean; end = end })) (λ none. absurd (elim none [ ])) (Memᴰ.cases_cons m)
  where
    end : CleanAt s End
    end = let u = all s (Memᴰ.head refl) in clean_at_the_end u.well sides u.nothing clean
every_frame_clean {s} (next {t = n} on rest) sides all clean t m =
    ⊎_elim (λ e. subst CleanStep (sym e) (record { start = clean; end = end })) (every_frame_clean rest (sides_stay on sides) (λ r l. all r (Memᴰ.tail l)) (clean_goes_on on u.well end) t) (Memᴰ.cases_cons m)
  where
    u : UntouchedStep s
    u = all s (Memᴰ.head refl)

    end : CleanAt s End
    end = clean_at_the_end u.well sides u.nothing clean

step_goes_on : (s : Scene) (ends : List ℤ) → GoesOn s (step_after s ends)
step_goes_on s ends = record { edges = step_edges s ends; triangles = step_triangles s ends; seams = step_seams s ends; places = place }
  where
    at : (v k n : ℕ) → v * 6 + k ≡ n → k < 6 → v < vertex_count s → get_or (step_after s ends).positions n (pos 0) ≡ get_or (goes_on s ends v) k (pos 0)
    at v k n e l h = subst (λ (m : ℕ). get_or (step_after s ends).positions m (pos 0) ≡ get_or (goes_on s ends v) k (pos 0)) e (step_at s ends v k h l)

    place : (v : ℕ) → v < vertex_count s → start_of (step_after s ends) v ≡ end_of s v
    place v h = λ i. record {
      x = at v 0 (6 * v) (omega arith) (omega arith) h i;
      y = at v 1 (6 * v + 1) (omega arith) (omega arith) h i;
      z = at v 2 (6 * v + 2) (omega arith) (omega arith) h i;
    }

steps_are : (s : Scene) (blocks : List (List ℤ)) → steps_from s blocks ≡ s ∷ next_steps s blocks
unfolding steps_from last_from
steps_are s blocks = steps_append s [] blocks

steps_in_turn : (s : Scene) (blocks : List (List ℤ)) → InTurn s (next_steps s blocks)
unfolding next_steps
steps_in_turn s [] = last
steps_in_turn s (ends ∷ more) = next (step_goes_on s ends) (steps_in_turn (step_after s ends) more)

-- the first frame clean, every side an edge, nothing touched in any step: every frame of the series is clean
pub clean_series : (x : Series) → SidesAreEdges x.scene → EachStep UntouchedStep (steps_of x) → CleanAt x.scene Start → EachStep CleanStep (steps_of x)
clean_series x sides all clean =
    let e = steps_are x.scene x.blocks in
    subst (EachStep CleanStep) (sym e) (every_frame_clean (steps_in_turn x.scene x.blocks) sides (subst (EachStep UntouchedStep) e all) clean)
