-- A scene without seams turned round passes and fails each of the five checks where the scene does: it is accepted exactly when the scene is, and
-- refused with the same number.
use Rattle.std.specs.Prelude.{ℕ, ◌*◌, ◌/◌, ◌%◌, ◌<◌, Bool, true, false, not, ◌||◌, List, [], ◌∷◌, map, ◌↔◌, ◌≡◌, refl, leb, ltb, eqb, pos, length, get_or}
use Rattle.std.proofs.Common.{sym, ◌∙◌, ap, ap₂, arith}
use Rattle.std.proofs.Math.Path.{fun_ext}
use Rattle.std.proofs.Math.Decide.{dec_lt}
use Rattle.std.proofs.lemmas.List.{length-map}
use Rattle.meaning.specs.Limits.{vertex_limit, edge_limit, triangle_limit, seam_limit}
use Rattle.meaning.specs.Scene.{Scene, scene_of, Accepted, vertex_count, edge_count, triangle_count, edge_end, corner, same, some_below, wrong_shape, outside, out_of_range, unknown_in, unknown_vertex, broken_seam, twice_in_edge, twice_in_triangle, repeated_vertex}
use Rattle.meaning.specs.Refusals.{scene_checks}
use Rattle.meaning.specs.Backwards.{from_last, turned_round}
use Rattle.answers.specs.Below.{found_below, none_passes, none_below, some_passes, some_alike}
use Rattle.turning_laws.specs.Numbers.{mapped_at, number_unknown, number_same}
use Rattle.turning_laws.specs.Turned.{source, source_below, source_behind, source_twice, as_long, coordinate, turns_round}
use Rattle.turning_laws.specs.Unsewn.{counts_itself}
use Rattle.turning_laws.specs.Pieces.{edge_end_turned, corner_turned}

-- ---- some number below n passes

-- whatever their order
some_onto : (n : ℕ) (f : ℕ → ℕ) → ((i : ℕ) → i < n → f i < n) → ((i : ℕ) → f (f i) ≡ i) → (test : ℕ → Bool)
    → some_below n (λ i. test (f i)) ≡ some_below n test
some_onto n f below twice test = go (some_below n test) refl
  where
    go : (b : Bool) → some_below n test ≡ b → some_below n (λ i. test (f i)) ≡ b
    go true e =
        let found = found_below test n e in
        some_passes (λ i. test (f i)) n (f found.which) (below found.which found.there) (ap test (twice found.which) ∙ found.passes)
    go false e = none_below (λ i. test (f i)) n (λ i h. none_passes test n e (f i) (below i h))

-- no seam is broken where there is none
pub none_broken : (s : Scene) → s.seams ≡ [] → broken_seam s ≡ false
unfolding some_below
none_broken s unsewn = ap (λ (w : List ℕ). broken_seam (scene_of s.positions [] [] w)) unsewn

module _ (s : Scene) where
  abbrev t : Scene
  t = turned_round s

  abbrev n : ℕ
  n = vertex_count s

  pub vertices_turned : vertex_count t ≡ vertex_count s
  vertices_turned = ap (λ k. k / 6) (as_long s)

  edges_long : length t.edges ≡ length s.edges
  edges_long = ap (length {A = ℕ}) (turns_round s).edges ∙ simp length-map

  triangles_long : length t.triangles ≡ length s.triangles
  triangles_long = ap (length {A = ℕ}) (turns_round s).triangles ∙ simp length-map

  seams_long : length t.seams ≡ length s.seams
  seams_long = ap (length {A = ℕ}) (turns_round s).seams

  pub edges_turned : edge_count t ≡ edge_count s
  edges_turned = ap (λ k. k / 2) edges_long

  pub triangles_turned : triangle_count t ≡ triangle_count s
  triangles_turned = ap (λ k. k / 3) triangles_long

  -- ---- the checks that go by lengths, coordinates and vertex numbers

  pub shape_turned : wrong_shape t ≡ wrong_shape s
  shape_turned = λ i. of_lengths (as_long s i) (edges_long i) (triangles_long i) (seams_long i)
    where
      of_lengths : ℕ → ℕ → ℕ → ℕ → Bool
      of_lengths p e k w =
          (not (eqb (p % 6) 0) || not (eqb (e % 2) 0) || not (eqb (k % 3) 0) || not (eqb (w % 2) 0))
          || (ltb vertex_limit (p / 6) || ltb edge_limit (e / 2) || ltb triangle_limit (k / 3) || ltb seam_limit (w / 2))

  pub range_turned : out_of_range t ≡ out_of_range s
  range_turned =
      ap₂ some_below (as_long s) (fun_ext (λ i. ap outside (coordinate s i)))
      ∙ some_onto (length s.positions) (source n) below (source_twice n) (λ i. outside (get_or s.positions i (pos 0)))
    where
      below : (i : ℕ) → i < length s.positions → source n i < length s.positions
      below i h = go (dec_lt i (6 * n))
        where
          go : Dec (i < 6 * n) → source n i < length s.positions
          go (yes l) = omega (arith, source_below n i l)
          go (no l) = omega (arith, source_behind n i (omega arith))

  unknown_in_turned : (l : List ℕ) → unknown_in n (map (from_last n) l) ≡ unknown_in n l
  unknown_in_turned l =
      ap (λ k. some_below k (λ i. leb n (get_or (map (from_last n) l) i 0))) (simp length-map)
      ∙ some_alike (λ i. leb n (get_or (map (from_last n) l) i 0)) (λ i. leb n (get_or l i 0)) (length l) (λ i h.
      ap (leb n) (mapped_at (from_last n) l i 0 0 h) ∙ number_unknown n (get_or l i 0))

  pub unknown_turned : unknown_vertex t ≡ unknown_vertex s
  unknown_turned =
      ap (λ k. unknown_in k t.edges || unknown_in k t.triangles || unknown_in k t.seams) vertices_turned
      ∙ (λ i. unknown_in n ((turns_round s).edges i) || unknown_in n ((turns_round s).triangles i) || unknown_in n ((turns_round s).seams i))
      ∙ (λ i. unknown_in_turned s.edges i || unknown_in_turned s.triangles i || unknown_in n s.seams)

  -- ---- the checks that go by the vertex stood for

  module _ (unsewn : s.seams ≡ []) where
    pub still_unsewn : t.seams ≡ []
    still_unsewn = (turns_round s).seams ∙ unsewn

    pub broken_turned : broken_seam t ≡ broken_seam s
    broken_turned = none_broken t still_unsewn ∙ sym (none_broken s unsewn)

    -- two vertices are the same where they were
    pub same_turned : (a b c d : ℕ) → c ≡ from_last n a → d ≡ from_last n b → same t c d ≡ same s a b
    same_turned a b c d e f =
        ap₂ eqb (counts_itself t still_unsewn c ∙ e) (counts_itself t still_unsewn d ∙ f) ∙ number_same n a b
        ∙ ap₂ eqb (sym (counts_itself s unsewn a)) (sym (counts_itself s unsewn b))

    pub repeated_turned : repeated_vertex t ≡ repeated_vertex s
    repeated_turned =
        ap₂ ◌||◌ (ap (λ k. some_below k (twice_in_edge t)) edges_turned ∙ some_alike (twice_in_edge t) (twice_in_edge s) (edge_count s) twice_edge)
        (ap (λ k. some_below k (twice_in_triangle t)) triangles_turned ∙ some_alike (twice_in_triangle t) (twice_in_triangle s) (triangle_count s) twice_triangle)
      where
        twice_edge : (j : ℕ) → j < edge_count s → twice_in_edge t j ≡ twice_in_edge s j
        twice_edge j h =
            let at : (k : ℕ) → k < 2 → edge_end t j k ≡ from_last n (edge_end s j k) = λ k l. edge_end_turned (turns_round s) j k h l in
            same_turned _ _ _ _ (at 0 (omega arith)) (at 1 (omega arith))

        twice_triangle : (j : ℕ) → j < triangle_count s → twice_in_triangle t j ≡ twice_in_triangle s j
        twice_triangle j h =
            let at : (k : ℕ) → k < 3 → corner t j k ≡ from_last n (corner s j k) = λ k l. corner_turned (turns_round s) j k h l in
            ap₂ ◌||◌ (ap₂ ◌||◌ (same_turned _ _ _ _ (at 0 (omega arith)) (at 1 (omega arith))) (same_turned _ _ _ _ (at 0 (omega arith)) (at 2 (omega arith))))
            (same_turned _ _ _ _ (at 1 (omega arith)) (at 2 (omega arith)))

    -- ---- together

    pub checks_turned : scene_checks t ≡ scene_checks s
    checks_turned =
        λ i.
        record { number = 1; holds = shape_turned i; carries = 0 } ∷ record { number = 2; holds = range_turned i; carries = 0 }
        ∷ record { number = 3; holds = unknown_turned i; carries = 0 }
        ∷ record { number = 15; holds = broken_turned i; carries = 0 }
        ∷ record { number = 4; holds = repeated_turned i; carries = 0 }
        ∷ []

    pub accepted_turned : Accepted s ↔ Accepted t
    accepted_turned = (
      λ a. record {
        shapely = shape_turned ∙ a.shapely;
        in_range = range_turned ∙ a.in_range;
        known = unknown_turned ∙ a.known;
        sewn_well = broken_turned ∙ a.sewn_well;
        distinct = repeated_turned ∙ a.distinct;
      },
      λ a. record {
        shapely = sym shape_turned ∙ a.shapely;
        in_range = sym range_turned ∙ a.in_range;
        known = sym unknown_turned ∙ a.known;
        sewn_well = sym broken_turned ∙ a.sewn_well;
        distinct = sym repeated_turned ∙ a.distinct;
      },
    )
