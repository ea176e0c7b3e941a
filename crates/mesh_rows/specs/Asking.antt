-- What is asked of a pair whose boxes meet: that it shares no vertex, and in near rows that it is not far. And when it may be asked.
use Rattle.std.specs.Prelude.{ℕ, ◌<◌, Bool, true, false, not, ◌&&◌, [], ◌≡◌, refl}
use Rattle.std.proofs.Common.{sym, ◌∙◌}
use Rattle.std.proofs.lemmas.Bool.{lt-leb}
use Rattle.meaning.specs.Limits.{part_limit}
use Rattle.meaning.specs.Scene.{Scene, scene_of, vertex_count, edge_count, triangle_count, edge_end, corner}
use Rattle.meaning.specs.Boxes.{boxes_meet}
use Rattle.meaning.specs.Near.{far}
use Rattle.meaning.specs.Refusals.{shares, not_there}
use Rattle.meaning.specs.List.{pair}
use Rattle.meaning.specs.MeshRows.{row_test}
use Rattle.meaning.specs.declared.Kind.{Kind}
use Rattle.meaning.specs.declared.Kind.TheVariants.{PointTriangle, EdgeEdge}
use Rattle.meaning.specs.declared.RowPairs.{RowPairs}
use Rattle.meaning.specs.declared.RowPairs.TheVariants.{Listed, Near}
use Rattle.list_candidates.specs.Rows.{first_count, second_count}
use Rattle.mesh_laws.specs.Entries.{Within}
use Rattle.mesh_near.specs.Spanned.{Spanned}

-- far pairs are left out of near rows alone
unfoldable pub left_out : RowPairs → Scene → Kind → ℕ → ℕ → Bool
left_out Listed s kind i j = false
left_out Near s kind i j = far s kind i j

abbrev pub passes : RowPairs → Scene → Kind → ℕ → ℕ → Bool
passes w s kind i j = not (shares s kind i j) && not (left_out w s kind i j)

one_more : (a b : Bool) → (a && true) && b ≡ a && b
one_more true b = refl
one_more false b = refl

one_later : (a b c : Bool) → (a && b) && c ≡ (a && c) && b
one_later true true true = refl
one_later true true false = refl
one_later true false true = refl
one_later true false false = refl
one_later false b c = refl

-- with the boxes this is the test of a row
pub passes_listed : (w : RowPairs) (s : Scene) (kind : Kind) (i j : ℕ) → passes w s kind i j && boxes_meet s kind i j ≡ row_test w s kind i j
unfolding left_out row_test
passes_listed Listed s kind i j = one_more (not (shares s kind i j)) (boxes_meet s kind i j)
passes_listed Near s kind i j = one_later (not (shares s kind i j)) (not (far s kind i j)) (boxes_meet s kind i j)

-- ---- when it may be asked

-- the pair is there, its vertices are, and its places go into an entry
pub record Askable (s : Scene) (kind : Kind) (i j : ℕ) : Type 0 where
  pub there : not_there s kind i j ≡ false
  pub spanned : Spanned s.positions s.edges s.triangles kind i j
  pub narrow : Within (pair kind i j)

-- a pair of parts that are there
pub both_there : (s : Scene) (kind : Kind) (i j : ℕ) → i < first_count s kind → j < second_count s kind → not_there s kind i j ≡ false
unfolding not_there first_count second_count
both_there s PointTriangle i j h k = rw (lt-leb (vertex_count s) i h, lt-leb (triangle_count s) j k)
both_there s EdgeEdge i j h k = rw (lt-leb (edge_count s) i h, lt-leb (edge_count s) j k)

-- they are there whatever the seams are
there_unsewn : (s : Scene) (kind : Kind) (i j : ℕ) → not_there s kind i j ≡ false
    → not_there (scene_of s.positions s.edges s.triangles []) kind i j ≡ false
unfolding not_there
there_unsewn s PointTriangle i j h = h
there_unsewn s EdgeEdge i j h = h

pub askable : (s : Scene) (kind : Kind) (i j : ℕ) → i < first_count s kind → j < second_count s kind → i < part_limit → j < part_limit
    → ((m k : ℕ) → m < edge_count s → k < 2 → edge_end s m k < vertex_count s)
    → ((m k : ℕ) → m < triangle_count s → k < 3 → corner s m k < vertex_count s)
    → Askable s kind i j
askable s kind i j h k low few ends corners =
    let there = both_there s kind i j h k in
    record {
      there = there;
      spanned = record { there = there_unsewn s kind i j there; ends = ends; corners = corners };
      narrow = record { first_few = low; second_few = few };
    }

-- ---- the answer

-- by the choice of rows
pub told_listed : (w : RowPairs) (s : Scene) (kind : Kind) (i j : ℕ) → w ≡ Listed → false ≡ left_out w s kind i j
unfolding left_out
told_listed w s kind i j e = rw e

pub told_near : (w : RowPairs) (s : Scene) (kind : Kind) (i j : ℕ) {out : Bool} → w ≡ Near → out ≡ far s kind i j → out ≡ left_out w s kind i j
unfolding left_out
told_near w s kind i j e made = rw (e, made)

module _ (w : RowPairs) (s : Scene) (kind : Kind) (i j : ℕ) where
  pub sharing_fails : {shared : Bool} → shared ≡ shares s kind i j → shared ≡ true → false ≡ passes w s kind i j
  sharing_fails made t = rw (← made, t)

  pub apart_passes : {shared out : Bool} → shared ≡ shares s kind i j → shared ≡ false → out ≡ left_out w s kind i j
      → not out ≡ passes w s kind i j
  apart_passes made t p = rw (← made, t, ← p)

  -- asked where the part was found alone
  pub not_found : {found : Bool} → found ≡ false → false ≡ found && passes w s kind i j
  not_found e = rw e

  pub found_asked : {found asked : Bool} → found ≡ true → asked ≡ passes w s kind i j → asked ≡ found && passes w s kind i j
  found_asked e made = rw (e, made)
