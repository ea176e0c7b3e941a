-- A scene that stands in another, its numbers moved up by the vertices before it, is a part of that one; so a pair alone is held there.
use Rattle.std.specs.Prelude.{ℕ, ◌+◌, ◌*◌, ◌<◌, List, [], ◌∷◌, ◌++◌, map, ◌≡◌, refl, ltb, pos, length}
use Rattle.std.proofs.Math.Path.{sym, ap}
use Rattle.std.proofs.Common.{◌∙◌, arith, length-append, get_or-append-add, lt-ltb, le-ltb}
use Rattle.std.proofs.Math.Decide.{dec_lt}
use Rattle.std.proofs.Math.ListN.{get_or, get_or-append}
use Rattle.std.proofs.lemmas.List.{length-map}
use Rattle.whole.specs.VectorLaws.{vector_eq}
use Rattle.sequences.specs.Mapped.{map_at}
use Rattle.meaning.specs.Scene.{Scene, edge_end, corner, stood_for}
use Rattle.meaning.specs.List.{Pair}
use Rattle.mesh_demands.specs.Part.{PartOf, as_written, in_whole}
use Rattle.mesh_demands.specs.CutOut.{positions_long, edges_long, triangles_long}
use Rattle.mesh_demands.specs.Alone.{Apart, alone, four_of, edges_of, triangles_of}
use Rattle.mesh_demands.specs.Packed.{Holds, own_pair}
use Rattle.mesh_demands.specs.Beside.{Around, Before, Wide, amid, moved_up}

-- what stands between two lists
between_at : {A : Type 0} (before own behind : List A) (d : A) (k i : ℕ) → k < length own → i ≡ length before + k
    → get_or (before ++ (own ++ behind)) i d ≡ get_or own k d
between_at before own behind d k i h e =
    ap (λ n. get_or (before ++ (own ++ behind)) n d) e
    ∙ get_or-append-add before (own ++ behind) k d
    ∙ get_or-append own behind d k h

moved_up_lem : (v a b : ℕ) → ltb (v + a) (v + b) ≡ ltb a b
moved_up_lem v a b = go (dec_lt a b)
  where
    go : Dec (a < b) → ltb (v + a) (v + b) ≡ ltb a b
    go (yes h) = lt-ltb (v + a) (v + b) (omega arith) ∙ sym (lt-ltb a b h)
    go (no h) = le-ltb (v + a) (v + b) (omega arith) ∙ sym (le-ltb a b (omega arith))

module _ (r : Around) (p : Scene) (v e t n m k : ℕ) (b : Before r v e t) (w : Wide p n m k) (unsewn : p.seams ≡ []) where
  number_at_lem : (before own behind : List ℕ) (j i : ℕ) → j < length own → i ≡ length before + j
      → get_or (before ++ (map (λ x. v + x) own ++ behind)) i 0 ≡ v + get_or own j 0
  number_at_lem before own behind j i h q =
      between_at before (map (λ x. v + x) own) behind 0 j i (omega (arith, length-map own (λ x. v + x))) q
      ∙ map_at (λ x. v + x) own j 0 0 h

  end_at : (j i : ℕ) → j < m → i < 2 → edge_end (amid r v p) (e + j) i ≡ v + edge_end p j i
  end_at j i h l = number_at_lem r.edges p.edges r.edges_behind (2 * j + i) (2 * (e + j) + i) (omega (arith, w.edges)) (omega (arith, b.edges))

  corner_at : (j i : ℕ) → j < k → i < 3 → corner (amid r v p) (t + j) i ≡ v + corner p j i
  corner_at j i h l =
      number_at_lem r.triangles p.triangles r.triangles_behind (3 * j + i) (3 * (t + j) + i) (omega (arith, w.triangles)) (omega (arith, b.triangles))

  coordinate : (a i c : ℕ) → a < n → c < 6 → i ≡ 6 * (v + a) + c → get_or (amid r v p).positions i (pos 0) ≡ get_or p.positions (6 * a + c) (pos 0)
  coordinate a i c h l q =
      between_at r.positions p.positions r.positions_behind (pos 0) (6 * a + c) i (omega (arith, w.vertices)) (omega (arith, b.vertices))

  -- the counts of the whole
  long : length (amid r v p).positions ≡ 6 * v + (6 * n + length r.positions_behind)
  long = omega (arith, length-append r.positions (p.positions ++ r.positions_behind), length-append p.positions r.positions_behind, b.vertices, w.vertices)

  edges_long_there : length (amid r v p).edges ≡ 2 * e + (2 * m + length r.edges_behind)
  edges_long_there =
      omega (
        arith,
        length-append r.edges (map (λ x. v + x) p.edges ++ r.edges_behind),
        length-append (map (λ x. v + x) p.edges) r.edges_behind,
        length-map p.edges (λ x. v + x),
        b.edges,
        w.edges,
      )

  triangles_long_there : length (amid r v p).triangles ≡ 3 * t + (3 * k + length r.triangles_behind)
  triangles_long_there =
      omega (
        arith,
        length-append r.triangles (map (λ x. v + x) p.triangles ++ r.triangles_behind),
        length-append (map (λ x. v + x) p.triangles) r.triangles_behind,
        length-map p.triangles (λ x. v + x),
        b.triangles,
        w.triangles,
      )

  pub amid_is_a_part : PartOf (moved_up v e t) p (amid r v p)
  unfolding stood_for
  amid_is_a_part =
      record {
        vertices_there = λ a h. omega (arith, long, w.vertices);
        edges_there = λ j h. omega (arith, edges_long_there, w.edges);
        triangles_there = λ j h. omega (arith, triangles_long_there, w.triangles);
        starts = λ a h.
            let l : a < n = omega (arith, w.vertices) in
            vector_eq (coordinate a (6 * (v + a)) 0 l (omega arith) (omega arith) ∙ ap (λ i. get_or p.positions i (pos 0)) (omega arith))
            (coordinate a (6 * (v + a) + 1) 1 l (omega arith) refl) (coordinate a (6 * (v + a) + 2) 2 l (omega arith) refl);
        ends = λ a h.
            let l : a < n = omega (arith, w.vertices) in
            vector_eq (coordinate a (6 * (v + a) + 3) 3 l (omega arith) refl)
            (coordinate a (6 * (v + a) + 3 + 1) 4 l (omega arith) (omega arith) ∙ ap (λ i. get_or p.positions i (pos 0)) (omega arith))
            (coordinate a (6 * (v + a) + 3 + 2) 5 l (omega arith) (omega arith) ∙ ap (λ i. get_or p.positions i (pos 0)) (omega arith));
        order = λ x y h l. rw unsewn (moved_up_lem v x y);
        edges = λ j h.
            let l : j < m = omega (arith, w.edges) in
            as_written (λ i. sym (end_at j 0 l (omega arith)) i ∷ sym (end_at j 1 l (omega arith)) i ∷ []);
        triangles = λ j h.
            let l : j < k = omega (arith, w.triangles) in
            as_written (λ i. sym (corner_at j 0 l (omega arith)) i ∷ sym (corner_at j 1 l (omega arith)) i ∷ sym (corner_at j 2 l (omega arith)) i ∷ []);
        edges_rise = λ i j l h. omega arith;
      }

module _ (s : Scene) (x : Pair) (apart : Apart s x.kind x.first x.second) (r : Around) (v e t : ℕ) (b : Before r v e t) where
  abbrev own : Scene
  own = alone s x.kind x.first x.second

  alone_wide : Wide own (length (four_of s x.kind x.first x.second)) (length (edges_of x.kind x.first x.second))
      (length (triangles_of x.kind x.first x.second))
  alone_wide =
      record {
        vertices = positions_long s (four_of s x.kind x.first x.second) (edges_of x.kind x.first x.second) (triangles_of x.kind x.first x.second);
        edges = edges_long s (four_of s x.kind x.first x.second) (edges_of x.kind x.first x.second) (triangles_of x.kind x.first x.second);
        triangles = triangles_long s (four_of s x.kind x.first x.second) (edges_of x.kind x.first x.second) (triangles_of x.kind x.first x.second);
      }

  -- it is held there, under its own numbers moved up by what stands before it
  pub held_amid : Holds (amid r v own) s (in_whole (moved_up v e t) (own_pair s x)) x
  held_amid = record { apart = apart; places = moved_up v e t; part = amid_is_a_part r own v e t _ _ _ b alone_wide refl; is = refl }
