-- A call over rows of vertices that is lent the mesh without its edges, and one over rows of edges without its triangles, has the result of the call that is lent
-- the whole mesh: the answer with its count, 7 and 16 too, and every lent number but the scratch. And the mesh without them is accepted where the whole is.
use Rattle.std.specs.Prelude.{ℕ, ◌%◌, Bool, true, false, not, ◌||◌, List, [], ◌≡◌, refl, ltb, eqb, length, Result}
use Rattle.sequences.specs.Pick.{neither}
use Rattle.meaning.specs.Limits.{part_limit}
use Rattle.meaning.specs.Scene.{Scene, vertex_count, edge_count, triangle_count, seam_count, some_below, uneven, unknown_in, twice_in_edge, twice_in_triangle}
use Rattle.meaning.specs.Refusals.{Outcome, Check, Answers}
use Rattle.meaning.specs.Mesh.{over_mesh_size}
use Rattle.meaning.specs.MeshRows.{Lent, row_count, row_checks, RowsCounted, RowsListed, RowsSettled, RowsContacts, RowsKept, ContactsKept}
use Rattle.meaning.specs.declared.RowPairs.{RowPairs}
use Rattle.meaning.specs.declared.Wanted.{Wanted}
use Rattle.mesh_checks.specs.Meshes.{AcceptedMesh}
use Rattle.rows_demands.specs.OfKind.{with_edges, with_triangles, SameRows}
use Rattle.rows_demands.specs.Carried.{Carry, carried_counted, carried_listed, carried_settled, carried_contacts, carried_kept, carried_kept_contacts}
use Rattle.rows_demands.specs.Refused.{RowsAsked}
use Rattle.rows_demands.specs.Shown.{asked_answers}
use Rattle.meaning.specs.declared.KeptRows.{KeptRows}
use Rattle.meaning.specs.declared.Refused.{Refused}

-- ---- a mesh without the parts of a kind is accepted where the whole is

both_false : (a b : Bool) → a ≡ false → b ≡ false → a || b ≡ false
both_false true b p q = p
both_false false b p q = q

without_last : (a b : Bool) → a || b ≡ false → a || false ≡ false
without_last a b h = both_false a false (neither a b h).0 refl

without_second : (a b c : Bool) → a || b || c ≡ false → a || false || c ≡ false
without_second a b c h = let (p, q) = neither (a || b) c h in both_false (a || false) c (without_last a b p) q

without_second_of_four : (a b c d : Bool) → a || b || c || d ≡ false → a || false || c || d ≡ false
without_second_of_four a b c d h =
    let (p, q) = neither (a || b || c) d h in
    both_false (a || false || c) d (without_second a b c p) q

abbrev oddly : List ℕ → ℕ → Bool
oddly l n = not (eqb (length l % n) 0)

abbrev large : ℕ → Bool
large n = ltb part_limit n

abbrev oddly_placed : Scene → Bool
oddly_placed s = not (eqb (length s.positions % 6) 0)

pub accepted_without_edges : (s : Scene) → AcceptedMesh s → AcceptedMesh (with_edges s [])
unfolding some_below
accepted_without_edges s a =
    let (uneven, over) = neither (uneven s) (over_mesh_size s) a.shapely in
    let parts = neither (unknown_in (vertex_count s) s.edges || unknown_in (vertex_count s) s.triangles) (unknown_in (vertex_count s) s.seams) a.known in
    record {
      shapely =
          both_false _ _
          (without_second_of_four (oddly_placed s) (oddly s.edges 2) (oddly s.triangles 3) (oddly s.seams 2) uneven)
          (without_second_of_four (large (vertex_count s)) (large (edge_count s)) (large (triangle_count s)) (large (seam_count s)) over);
      in_range = a.in_range;
      known = both_false (unknown_in (vertex_count s) s.triangles) (unknown_in (vertex_count s) s.seams) (neither (unknown_in (vertex_count s) s.edges) (unknown_in (vertex_count s) s.triangles) parts.0).1 parts.1;
      sewn_well = a.sewn_well;
      distinct = (neither (some_below (edge_count s) (twice_in_edge s)) (some_below (triangle_count s) (twice_in_triangle s)) a.distinct).1;
    }

pub accepted_without_triangles : (s : Scene) → AcceptedMesh s → AcceptedMesh (with_triangles s [])
unfolding some_below
accepted_without_triangles s a =
    let (uneven, over) = neither (uneven s) (over_mesh_size s) a.shapely in
    let once = (neither (some_below (edge_count s) (twice_in_edge s)) (some_below (triangle_count s) (twice_in_triangle s)) a.distinct).0 in
    record {
      shapely =
          both_false _ _
          (without_second (oddly_placed s || oddly s.edges 2) (oddly s.triangles 3) (oddly s.seams 2) uneven)
          (without_second (large (vertex_count s) || large (edge_count s)) (large (triangle_count s)) (large (seam_count s)) over);
      in_range = a.in_range;
      known =
          without_second (unknown_in (vertex_count s) s.edges) (unknown_in (vertex_count s) s.triangles) (unknown_in (vertex_count s) s.seams) a.known;
      sewn_well = a.sewn_well;
      distinct = both_false (some_below (edge_count s) (twice_in_edge s)) false once refl;
    }

-- ---- two calls over rows that are the same

-- the checks that come first let it pass, so the others decide
asked_decided : {A : Type 0} (R : A → Type 0) {s : Scene} {l : Lent} {rows first end : ℕ} (more : List Check) (o : Outcome A) → RowsAsked s l rows first end
    → Answers (row_checks s l rows first end more) R o → Answers more R o
unfolding Answers
asked_decided R more o a p =
    rw (a.lent, a.accepted.shapely, a.accepted.in_range, a.accepted.known, a.accepted.sewn_well, a.accepted.distinct, a.ordered, a.there) at p

module _ {w : RowPairs} {s s' : Scene} {first end : ℕ} (same : SameRows w s s' first end) {l l' : Lent} (here : RowsAsked s l (row_count s) first end)
    (there : RowsAsked s' l' (row_count s') first end) where
  carry : Carry s s' l l' first end
  carry = record { over = λ R more o p. asked_answers R more o here (asked_decided R more o there p) }

  pub counted_of_kind : (r r' : Result ℕ Refused) → RowsCounted w s l first end r → RowsCounted w s' l' first end r' → r ≡ r'
  counted_of_kind = carried_counted same carry

  pub listed_of_kind : (o o' o'' : List ℕ) (r r' : Result ℕ Refused) → RowsListed w s l first end o o' r → RowsListed w s' l' first end o o'' r'
      → (r ≡ r') × (o' ≡ o'')
  listed_of_kind = carried_listed same carry

  pub settled_of_kind : (o o' o'' b b' b'' : List ℕ) (r r' : Result ℕ Refused) → RowsSettled w s l first end o o' b b' r
      → RowsSettled w s' l' first end o o'' b b'' r' → (r ≡ r') × (o' ≡ o'') × (b' ≡ b'')
  settled_of_kind = carried_settled same carry

  pub contacts_of_kind : (o o' o'' b b' b'' c c' c'' : List ℕ) (r r' : Result ℕ Refused) → RowsContacts w s l first end o o' b b' c c' r
      → RowsContacts w s' l' first end o o'' b b'' c c'' r' → (r ≡ r') × (o' ≡ o'') × (b' ≡ b'') × (c' ≡ c'')
  contacts_of_kind = carried_contacts same carry

  module _ (m : Wanted) where
    pub kept_of_kind : (o o' o'' b b' b'' : List ℕ) (r r' : Result KeptRows Refused) → RowsKept w m s l first end o o' b b' r
        → RowsKept w m s' l' first end o o'' b b'' r' → (r ≡ r') × (o' ≡ o'') × (b' ≡ b'')
    kept_of_kind = carried_kept same carry m

    pub kept_contacts_of_kind : (o o' o'' b b' b'' c c' c'' : List ℕ) (r r' : Result KeptRows Refused) → ContactsKept w m s l first end o o' b b' c c' r
        → ContactsKept w m s' l' first end o o'' b b'' c c'' r' → (r ≡ r') × (o' ≡ o'') × (b' ≡ b'') × (c' ≡ c'')
    kept_contacts_of_kind = carried_kept_contacts same carry m
