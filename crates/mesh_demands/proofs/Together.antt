-- The scene of pairs written alone, one behind the other, holds each of them, so the call for them gives the words and contacts of the mesh.
use Rattle.std.specs.Prelude.{ℕ, ◌+◌, ◌*◌, ◌≤◌, ◌<◌, ◌≡◌, refl, ℤ, Result}
use mathlib.Core.List.{List, [], ◌∷◌, ◌++◌, map, append_assoc}
use Rattle.std.proofs.Math.Path.{sym, subst}
use Rattle.std.proofs.Common.{◌∙◌, arith}
use Rattle.std.proofs.Math.ListN.{length, length-append, length-map}
use Rattle.sequences.specs.Wrote.{written}
use Rattle.meaning.specs.Scene.{Scene, scene_of}
use Rattle.meaning.specs.Refusals.{given, outcome_of}
use Rattle.meaning.specs.List.{Pair, place_step}
use Rattle.meaning.specs.WholeContacts.{rows_left}
use Rattle.meaning.specs.OwnList.{OwnSettled, OwnContacts}
use Rattle.meaning.specs.declared.Kind.{Kind}
use Rattle.meaning.specs.declared.Kind.TheVariants.{PointTriangle, EdgeEdge}
use Rattle.list_entries.specs.Entries.{Narrow, number_back}
use Rattle.list_words.specs.Listed.{bytes_of}
use Rattle.contact_entries.specs.Listed.{contacts_of, contact_bytes}
use Rattle.mesh_demands.specs.Part.{first_place, second_place, in_whole}
use Rattle.mesh_demands.specs.Meshes.{Mesh}
use Rattle.mesh_demands.specs.CutOut.{vertices_many, positions_long, edges_long, triangles_long}
use Rattle.mesh_demands.specs.Alone.{alone_first, alone_second, four_of, edges_of, triangles_of, few_parts, four_vertices, own_first_below}
use Rattle.mesh_demands.specs.Packed.{Holds, AllHeld, own_pair}
use Rattle.mesh_demands.proofs.Packed.{packed_words, packed_contacts}
use Rattle.mesh_demands.specs.Beside.{Around, moved_up}
use Rattle.mesh_demands.proofs.Beside.{held_amid}
use Rattle.mesh_demands.specs.Together.{alone_of, edges_in, triangles_in, positions_of, edges_from, triangles_from, entries_from, together, entries_of, AllApart}
use Rattle.meaning.specs.declared.Refused.{Refused}

-- a pair's numbers there are those of an entry
first_edge_first : (s : Scene) (i j : ℕ) → alone_first s EdgeEdge i j ≡ 0
unfolding alone_first
first_edge_first s i j = refl

narrow_by_kind : (s : Scene) → Mesh s → (v e t : ℕ) → v + 4 ≤ place_step → e + 2 ≤ place_step → t + 1 ≤ place_step → (kind : Kind) (i j : ℕ)
    → (first_place (moved_up v e t) kind (alone_first s kind i j) < place_step) × (second_place (moved_up v e t) kind (alone_second kind) < place_step)
unfolding first_place second_place alone_second
narrow_by_kind s mesh v e t few few_edges few_triangles PointTriangle i j = (omega (arith, own_first_below mesh i j), omega arith)
narrow_by_kind s mesh v e t few few_edges few_triangles EdgeEdge i j = (omega (arith, first_edge_first s i j), omega arith)

pub narrow : (s : Scene) → Mesh s → (x : Pair) → (v e t : ℕ) → v + 4 ≤ place_step → e + 2 ≤ place_step → t + 1 ≤ place_step → Narrow (in_whole (moved_up v e t) (own_pair s x))
narrow s mesh x v e t few few_edges few_triangles =
    let both = narrow_by_kind s mesh v e t few few_edges few_triangles x.kind x.first x.second in
    record { first_narrow = both.0; second_narrow = both.1 }

module _ {s : Scene} (mesh : Mesh s) where
  -- behind n pairs
  all_held_from : (ps : List ℤ) (es ts : List ℕ) (n v e t : ℕ) → v ≡ 4 * n → e ≤ 2 * n → t ≤ n
      → length ps ≡ 6 * v → length es ≡ 2 * e → length ts ≡ 3 * t
      → (xs : List Pair) → n + length xs ≤ 128 → AllApart s xs
      → AllHeld (scene_of (ps ++ positions_of s xs) (es ++ edges_from s v xs) (ts ++ triangles_from s v xs) []) s (entries_from s v e t xs) xs
  unfolding AllHeld AllApart entries_from positions_of edges_from triangles_from
  all_held_from ps es ts n v e t four few fewer long long_edges long_triangles [] room apart = tt
  all_held_from ps es ts n v e t four few fewer long long_edges long_triangles (x ∷ xs) room apart =
      let own : Scene = alone_of s x in
      let r : Around = record {
        positions = ps;
        edges = es;
        triangles = ts;
        positions_behind = positions_of s xs;
        edges_behind = edges_from s (v + 4) xs;
        triangles_behind = triangles_from s (v + 4) xs;
      } in
      let parts = few_parts x.kind x.first x.second in
      let many : length (four_of s x.kind x.first x.second) ≡ 4 = sym (vertices_many s (four_of s x.kind x.first x.second) (edges_of x.kind x.first x.second) (triangles_of x.kind x.first x.second)) ∙ four_vertices mesh x.kind x.first x.second apart.0 in
      let wide = positions_long s (four_of s x.kind x.first x.second) (edges_of x.kind x.first x.second) (triangles_of x.kind x.first x.second) in
      let wide_edges = edges_long s (four_of s x.kind x.first x.second) (edges_of x.kind x.first x.second) (triangles_of x.kind x.first x.second) in
      let wide_triangles = triangles_long s (four_of s x.kind x.first x.second) (edges_of x.kind x.first x.second) (triangles_of x.kind x.first x.second) in
      let later = all_held_from (ps ++ own.positions) (es ++ map (λ y. v + y) own.edges) (ts ++ map (λ y. v + y) own.triangles) (n + 1) (v + 4) (e + edges_in x) (t + triangles_in x)
      (omega arith) (omega (arith, parts.0)) (omega (arith, parts.1))
      (omega (arith, length-append ps own.positions, wide, many))
      (omega (arith, length-append es (map (λ y. v + y) own.edges), length-map own.edges (λ y. v + y), wide_edges))
      (omega (arith, length-append ts (map (λ y. v + y) own.triangles), length-map own.triangles (λ y. v + y), wide_triangles))
      xs (omega arith) apart.1 in (
        subst (λ (q : Pair). Holds (scene_of (ps ++ (own.positions ++ positions_of s xs)) (es ++ (map (λ y. v + y) own.edges ++ edges_from s (v + 4) xs)) (ts ++ (map (λ y. v + y) own.triangles ++ triangles_from s (v + 4) xs)) []) s q x)
            (sym (number_back (in_whole (moved_up v e t) (own_pair s x)) (narrow s mesh x v e t (omega arith) (omega arith) (omega arith))))
            (held_amid s x apart.0 r v e t (record { vertices = long; edges = long_edges; triangles = long_triangles })),
        subst (λ (w : Scene). AllHeld w s (entries_from s (v + 4) (e + edges_in x) (t + triangles_in x) xs) xs)
            (λ i. scene_of (append_assoc ps own.positions (positions_of s xs) i) (append_assoc es (map (λ y. v + y) own.edges) (edges_from s (v + 4) xs) i) (append_assoc ts (map (λ y. v + y) own.triangles) (triangles_from s (v + 4) xs) i) [])
            later,
      )

  pub all_held : (xs : List Pair) → length xs ≤ 128 → AllApart s xs → AllHeld (together s xs) s (entries_of s xs) xs
  all_held xs room apart = all_held_from [] [] [] 0 0 0 0 refl (omega arith) (omega arith) refl refl refl xs (omega arith) apart

  -- so the call gives the words of the mesh, in the order of the pairs
  pub words_together : (xs : List Pair) → length xs ≤ 128 → AllApart s xs → {b b' : List ℕ} {r : Result ℕ Refused} → OwnSettled (together s xs) (entries_of s xs) b b' r
      → {n : ℕ} → outcome_of r ≡ given n → b' ≡ written (bytes_of s xs) b
  words_together xs room apart o g = packed_words (together s xs) mesh o g xs (all_held xs room apart)

  -- and its contacts
  pub contacts_together : (xs : List Pair) → length xs ≤ 128 → AllApart s xs → {b b' c c' : List ℕ} {r : Result ℕ Refused} → OwnContacts (together s xs) (entries_of s xs) b b' c c' r
      → {n : ℕ} → outcome_of r ≡ given n → (b' ≡ written (contact_bytes s xs) b) × (c' ≡ rows_left (contacts_of s xs) c)
  contacts_together xs room apart o g = packed_contacts (together s xs) mesh o g xs (all_held xs room apart)
