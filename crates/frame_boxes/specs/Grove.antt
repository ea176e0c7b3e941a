-- What a row of edges against triangles at one time goes by: the boxes of all parts at that time and a tree over the triangles stand in the scratch.
use Rattle.std.specs.Prelude.{ℕ, ◌+◌, ◌≤◌, ◌<◌, ◌&&◌, List, ◌≡◌, ℤ, length, get_or}
use Rattle.std.proofs.Common.{ap, ◌∙◌, arith}
use Rattle.meaning.specs.Scene.{Scene, scene_of, vertex_count, edge_count, triangle_count}
use Rattle.meaning.specs.Boxes.{x_axis, y_axis, z_axis}
use Rattle.meaning.specs.StoredBoxes.{Box, box_at}
use Rattle.meaning.specs.PiercedRows.{meet_at}
use Rattle.meaning.specs.declared.Frame.{Frame}
use Rattle.list_boxes.specs.Kept.{meet_boxes}
use Rattle.list_boxes.specs.Storing.{same_box}
use Rattle.mesh_tree.specs.Grown.{level_place, Grown}
use Rattle.mesh_walk.specs.Steps.{Tree, row_meets, grown_tree}
use Rattle.mesh_boxes.specs.Joining.{BoxedAs, FilledAs, joined_edge, joined_triangle}
use Rattle.mesh_trees.specs.Planting.{Plantable}
use Rattle.frame_boxes.specs.Spots.{vertex_box_at}

pub record Grove (f : Frame) (s : Scene) (l : List ℤ) (t : List ℕ) (top : ℕ) : Type 0 where
  pub boxed : BoxedAs s (vertex_box_at f s) l
  pub over : Tree l t (triangle_count s) top
  pub from : get_or t 0 0 ≡ vertex_count s + edge_count s
  pub few_vertices : vertex_count s ≤ 1_073_741_824
  pub few_edges : edge_count s ≤ 1_073_741_824
  pub few_triangles : triangle_count s ≤ 1_073_741_824

-- a tree was grown behind the boxes
module _ {l l' : List ℤ} {t t' : List ℕ} {first n to top : ℕ} (g : Grown l l' t t' first n to top) where
  box_stays : (k : ℕ) → k < to → box_at l' k ≡ box_at l k
  box_stays k h = same_box l l' k (λ i p q. g.nodes.front i (omega arith))

  boxed_stays : {s : Scene} {b : ℕ → Box} → vertex_count s + edge_count s + triangle_count s ≤ to → BoxedAs s b l → BoxedAs s b l'
  boxed_stays {s} h boxed =
      record {
        vertices = record { at = λ i p. box_stays (0 + i) (omega arith) ∙ boxed.vertices.at i p };
        edges = record { at = λ i p. box_stays (vertex_count s + i) (omega arith) ∙ boxed.edges.at i p };
        triangles = record { at = λ i p. box_stays (vertex_count s + edge_count s + i) (omega arith) ∙ boxed.triangles.at i p };
        room = omega (arith, boxed.room, g.nodes.same);
      }

  first_level : get_or t' 0 0 ≡ first
  unfolding level_place
  first_level = g.levels.places 0 (omega arith)

-- no seam is looked at
pub other_seams : {s : Scene} {l : List ℤ} (w : List ℕ) → Plantable s l → Plantable (scene_of s.positions s.edges s.triangles w) l
other_seams w can =
    record {
      drawable = record { ends = can.drawable.ends; corners = can.drawable.corners; room = can.drawable.room };
      few_vertices = can.few_vertices;
      few_edges = can.few_edges;
      few_triangles = can.few_triangles;
      room = can.room;
    }

pub grove_planted : (f : Frame) (s : Scene) {l l₁ l₂ : List ℤ} {t t' : List ℕ} {first n to top : ℕ} → Plantable s l → 34 ≤ length t
    → first ≡ vertex_count s + edge_count s → n ≡ triangle_count s → to ≡ vertex_count s + edge_count s + triangle_count s
    → FilledAs s (vertex_box_at f s) l l₁ → Grown l₁ l₂ t t' first n to top → Grove f s l₂ t' top
grove_planted f s can wide a b c filled grown =
    let g = rw (a, b, c) at grown in
    record {
      boxed = boxed_stays g (omega arith) filled.boxed;
      over = grown_tree g (omega arith) (omega (arith, can.few_triangles)) (omega (arith, can.room, filled.kept.same)) wide;
      from = first_level g;
      few_vertices = can.few_vertices;
      few_edges = can.few_edges;
      few_triangles = can.few_triangles;
    }

-- an edge's box meets a triangle's in the tree exactly when they meet at that time
module _ {f : Frame} {s : Scene} {l : List ℤ} {t : List ℕ} {top : ℕ} (so : Grove f s l t top) where
  pub row_meets_lem : (i row j : ℕ) → i < edge_count s → row ≡ vertex_count s + i → j < triangle_count s
      → row_meets l t row j ≡ (meet_at f s i j x_axis && meet_at f s i j y_axis && meet_at f s i j z_axis)
  row_meets_lem i row j h e k =
      let edge : box_at l row ≡ joined_edge s (vertex_box_at f s) i = ap (box_at l) e ∙ so.boxed.edges.at i h in
      let triangle : box_at l (get_or t 0 0 + j) ≡ joined_triangle s (vertex_box_at f s) j =
      ap (λ (n : ℕ). box_at l (n + j)) so.from ∙ so.boxed.triangles.at j k in
      λ u. meet_boxes (edge u) (triangle u)
