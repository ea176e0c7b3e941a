-- Dragging a seam. A sewn vertex cannot be moved alone, since the seam would come apart (15). With the seams left out each can be moved; and where
-- of every seam both vertices were moved to one place, or neither was moved, the scene with its seams is accepted and its boxes are right.
use Rattle.std.specs.Prelude.{ℕ, ◌+◌, ◌*◌, ◌%◌, ◌<◌, true, cond, ◌||◌, List, [], ◌∷◌, ◌≡◌, refl, leb, eqb, ℤ, pos, length, get_or, Ok, Result}
use Rattle.std.proofs.Math.Bool.{Bool, false, not}
use Rattle.std.proofs.Common.{true≢false, ⊎_elim, sym, ap, subst, ◌∙◌, arith, eqb-true, eq-eqb}
use Rattle.std.proofs.Math.Dec.{ltb}
use Rattle.std.proofs.lemmas.Bool.{eqb-false, lt-leb}
use Rattle.sequences.specs.Pick.{either, neither}
use Rattle.meaning.specs.Limits.{coordinate_limit, vertex_limit, edge_limit, triangle_limit}
use Rattle.meaning.specs.Scene.{Scene, scene_of, Accepted, vertex_count, edge_count, triangle_count, seam_count, edge_end, corner, sewn, onto, stood_for, counts_as, same, some_below, uneven, over_size, wrong_shape, unknown_in, reaches_beyond, differ, comes_apart, not_rising, replaced, wrong_seam, twice_in_edge, twice_in_triangle}
use Rattle.meaning.specs.StoredBoxes.{Boxed, short_boxes}
use Rattle.meaning.specs.Dragging.{placed, moved_scene, new_outside, tears_seam, VertexMoved}
use Rattle.answers.specs.Below.{or_left, or_rest, none_passes, none_below}
use Rattle.stored_laws.specs.Placed.{placed_length, placed_here, placed_elsewhere}
use Rattle.stored_laws.specs.Torn.{together}
use Rattle.stored_demands.specs.Fresh.{no_other}
use Rattle.stored_demands.specs.Chain.{Move, moved_all, Dragged, Right, moves_stay_right}
use Rattle.stored_demands.specs.Demand1.{demand1_move}
use Rattle.meaning.specs.declared.Refusal.{Refusal}
use Rattle.meaning.specs.Refusals.{outcome_alone}
use Rattle.answers.specs.Speaking.{one_alone}

-- ---- the seams left out

abbrev pub unsewn : Scene → Scene
unsewn s = scene_of s.positions s.edges s.triangles []

-- vertices that do not stand for one vertex are two
two_numbers : (s : Scene) (a b : ℕ) → same s a b ≡ false → eqb a b ≡ false
two_numbers s a b h = ⊎_elim equal (λ e. e) (either (eqb a b))
  where
    equal : eqb a b ≡ true → eqb a b ≡ false
    equal e =
        let one : counts_as s a ≡ counts_as s b = ap (counts_as s) (eqb-true a b e) in
        absurd (true≢false (sym (eq-eqb (counts_as s a) (counts_as s b) one) ∙ h))

module _ (s : Scene) (a : Accepted s) where
  no_edge_twice : (j : ℕ) → j < edge_count s → twice_in_edge (unsewn s) j ≡ false
  unfolding stood_for
  no_edge_twice j h =
      two_numbers s (edge_end s j 0) (edge_end s j 1)
      (none_passes (twice_in_edge s) (edge_count s) (or_left _ (some_below (triangle_count s) (twice_in_triangle s)) a.distinct) j h)

  no_triangle_twice : (j : ℕ) → j < triangle_count s → twice_in_triangle (unsewn s) j ≡ false
  unfolding stood_for
  no_triangle_twice j h =
      let p = corner s j 0 in
      let q = corner s j 1 in
      let r = corner s j 2 in
      let none = none_passes (twice_in_triangle s) (triangle_count s) (or_rest (some_below (edge_count s) (twice_in_edge s)) _ a.distinct) j h in
      let (most, three) = neither (same s p q || same s p r) (same s q r) none in
      let (one, two) = neither (same s p q) (same s p r) most in
      rw (two_numbers s p q one, two_numbers s p r two, two_numbers s q r three)

  pub unsewn_accepted : Accepted (unsewn s)
  unfolding some_below
  unsewn_accepted =
      let parts : Bool = unknown_in (vertex_count s) s.edges || unknown_in (vertex_count s) s.triangles in
      let known : parts ≡ false = or_left parts (unknown_in (vertex_count s) s.seams) a.known in
      record {
        shapely = unsewn_shapely;
        in_range = a.in_range;
        known = λ t. known t || false;
        sewn_well = refl;
        distinct = (λ t. none_below (twice_in_edge (unsewn s)) (edge_count s) no_edge_twice t || none_below (twice_in_triangle (unsewn s)) (triangle_count s) no_triangle_twice t);
      }
    where
      unsewn_shapely : wrong_shape (unsewn s) ≡ false
      unsewn_shapely =
          let (whole, few) = neither (uneven s) (over_size s) a.shapely in
          let three = or_left (not (eqb (length s.positions % 6) 0) || not (eqb (length s.edges % 2) 0) || not (eqb (length s.triangles % 3) 0)) _ whole in
          let sizes = or_left (ltb vertex_limit (vertex_count s) || ltb edge_limit (edge_count s) || ltb triangle_limit (triangle_count s)) _ few in
          rw (three, sizes)

-- ---- all moved to one place

unfoldable pub to_one_place : List ℕ → List ℤ → List Move
to_one_place [] c = []
to_one_place (v ∷ vs) c = record { vertex = v; to = c } ∷ to_one_place vs c

unfoldable pub placed_all : List ℤ → List ℕ → List ℤ → List ℤ
placed_all p [] c = p
placed_all p (v ∷ vs) c = placed_all (placed p v c) vs c

unfoldable pub has : List ℕ → ℕ → Bool
has [] u = false
has (v ∷ vs) u = eqb u v || has vs u

pub placed_scene : (s : Scene) (vs : List ℕ) (c : List ℤ)
    → moved_all s (to_one_place vs c) ≡ scene_of (placed_all s.positions vs c) s.edges s.triangles s.seams
unfolding moved_all to_one_place placed_all
placed_scene s [] c = refl
placed_scene s (v ∷ vs) c = placed_scene (moved_scene s v c) vs c

placed_all_length : (p : List ℤ) (vs : List ℕ) (c : List ℤ) → length (placed_all p vs c) ≡ length p
unfolding placed_all
placed_all_length p [] c = refl
placed_all_length p (v ∷ vs) c = placed_all_length (placed p v c) vs c ∙ placed_length p v c

-- a vertex of the list is where it was moved to, another where it was
pub where_placed : (p : List ℤ) (vs : List ℕ) (c : List ℤ) (u k : ℕ) → 6 * u + 5 < length p → k < 6
    → get_or (placed_all p vs c) (6 * u + k) (pos 0) ≡ cond (has vs u) (get_or c k (pos 0)) (get_or p (6 * u + k) (pos 0))
unfolding placed_all has
where_placed p [] c u k there h = refl
where_placed p (v ∷ vs) c u k there h =
    where_placed (placed p v c) vs c u k (rw (placed_length p v c) there) h ∙ go (eqb u v) refl (has vs u)
  where
    go : (b : Bool) → eqb u v ≡ b → (d : Bool)
        → cond d (get_or c k (pos 0)) (get_or (placed p v c) (6 * u + k) (pos 0)) ≡ cond (b || d) (get_or c k (pos 0)) (get_or p (6 * u + k) (pos 0))
    go true e true = refl
    go true e false =
        subst (λ (w : ℕ). get_or (placed p w c) (6 * u + k) (pos 0) ≡ get_or c k (pos 0)) (eqb-true u v e) (placed_here p u c there k h)
    go false e true = refl
    go false e false = placed_elsewhere p v c u k (eqb-false u v e) h

-- ---- the seams put back

-- of every seam both vertices, or neither
abbrev pub Whole : Scene → List ℕ → Type 0
Whole s vs = (k : ℕ) → k < seam_count s → has vs (sewn s k) ≡ has vs (onto s k)

module _ (s : Scene) (vs : List ℕ) (c : List ℤ) (a : Accepted s) (whole : Whole s vs) where
  abbrev after : Scene
  after = scene_of (placed_all s.positions vs c) s.edges s.triangles s.seams

  still_together : (k : ℕ) → k < seam_count s → comes_apart after (sewn s k) (onto s k) ≡ false
  still_together k h =
      let i : ℕ = sewn s k in
      let j : ℕ = onto s k in
      let so = together a k h in
      none_below (λ n. differ (get_or after.positions (6 * i + n) (pos 0)) (get_or after.positions (6 * j + n) (pos 0))) 6
      (λ n l.
      rw (where_placed s.positions vs c i n (omega (arith, so.there)) l, where_placed s.positions vs c j n (omega (arith, so.there, so.below)) l, whole k h)
      (go (has vs j) n (get_or s.positions (6 * i + n) (pos 0)) (get_or s.positions (6 * j + n) (pos 0)) (none_passes (λ m. differ (get_or s.positions (6 * i + m) (pos 0)) (get_or s.positions (6 * j + m) (pos 0))) 6 so.whole n l)))
    where
      go : (b : Bool) (n : ℕ) (x y : ℤ) → differ x y ≡ false → differ (cond b (get_or c n (pos 0)) x) (cond b (get_or c n (pos 0)) y) ≡ false
      go true n x y e = no_other (get_or c n (pos 0))
      go false n x y e = e

  seam_whole : (k : ℕ) → k < seam_count s → wrong_seam after k ≡ false
  seam_whole k h =
      let rules = not_rising s k || leb (sewn s k) (onto s k) || replaced s (onto s k) in
      let fine : rules ≡ false = or_left rules (comes_apart s (sewn s k) (onto s k)) (none_passes (wrong_seam s) (seam_count s) a.sewn_well k h) in
      let kept = still_together k h in
      (λ t. fine t || kept t)

  accepted_again : reaches_beyond coordinate_limit after ≡ false → Accepted after
  accepted_again range =
      record {
        shapely = rw (placed_all_length s.positions vs c) a.shapely;
        in_range = range;
        known = rw (placed_all_length s.positions vs c) a.known;
        sewn_well = none_below (wrong_seam after) (seam_count s) seam_whole;
        distinct = a.distinct;
      }

-- a box looks at no seam
boxed_any : (p : List ℤ) (e t w w' : List ℕ) (b : List ℤ) → Boxed (scene_of p e t w) b → Boxed (scene_of p e t w') b
boxed_any p e t w w' b so = record { vertices = so.vertices; edges = so.edges; triangles = so.triangles; room = so.room }

-- 'the scene after the move' of a whole seam: accepted with its seams, and its stored boxes are the ones worked out
pub seam_dragged : (s : Scene) (b : List ℤ) (vs : List ℕ) (c b' : List ℤ) → Right s b → Whole s vs
    → Dragged (unsewn s) b (to_one_place vs c) b' → Right (scene_of (placed_all s.positions vs c) s.edges s.triangles s.seams) b'
seam_dragged s b vs c b' so whole d =
    let left : Right (unsewn s) b = record { accepted = unsewn_accepted s so.accepted; boxed = boxed_any s.positions s.edges s.triangles s.seams [] b so.boxed; long = so.long } in
    let p : List ℤ = placed_all s.positions vs c in
    let moved : Right (scene_of p s.edges s.triangles []) b' =
    subst (λ (t : Scene). Right t b') (placed_scene (unsewn s) vs c) (moves_stay_right (unsewn s) b (to_one_place vs c) b' left d) in
    record {
      accepted = accepted_again s vs c so.accepted whole moved.accepted.in_range;
      boxed = boxed_any p s.edges s.triangles [] s.seams b' moved.boxed;
      long = moved.long;
    }

-- ---- and once the first of them is accepted none of the others is refused: without seams a move has 5 and 2 alone to fear

pub unsewn_moves : (p : List ℤ) (e t : List ℕ) (v : ℕ) (c p' b b' : List ℤ) (r : Result (Unit {0}) Refusal) → Right (scene_of p e t []) b
    → v < vertex_count (scene_of p e t []) → new_outside c ≡ false → VertexMoved (scene_of p e t []) v c p' b b' r
    → r ≡ Ok tt
unfolding outcome_alone some_below
unsewn_moves p e t v c p' b b' r so there range m =
    let s : Scene = scene_of p e t [] in
    one_alone r (Ok tt)
    (((demand1_move s v c p' b b' r m).rest so.long).moved.1 (so.accepted, (lt-leb (vertex_count s) v there, (range, refl))))
