-- The boxes after a move: those of the vertex, of its edges and of its triangles, and all others kept.
use Rattle.std.specs.Prelude.{ℕ, ◌+◌, ◌*◌, ◌≤◌, ◌<◌, Bool, true, false, cond, List, ◌≡◌, refl, eqb, ℤ, pos, length, get_or}
use Rattle.std.proofs.Common.{sym, ap, ◌∙◌, arith, eqb-true, ⊎_elim}
use Rattle.std.proofs.lemmas.Bool.{eqb-false}
use Rattle.sequences.specs.Pick.{either}
use Rattle.meaning.specs.Scene.{Scene, vertex_count, edge_count, triangle_count}
use Rattle.meaning.specs.StoredBoxes.{Box, box_at, vertex_box, edge_box, triangle_box, edge_place, triangle_place, KeptBehind}
use Rattle.meaning.specs.Dragging.{edge_has, triangle_has, BoxesMoved}
use Rattle.list_boxes.specs.Storing.{BoxStored, others_kept, same_box}
use Rattle.stored_mend.specs.Mending.{Mended}

module _ (s : Scene) (v : ℕ) (there : v < vertex_count s) {b b₁ b₂ b₃ : List ℤ} (first : BoxStored b v (vertex_box s v) b₁)
    (edges : Mended b₁ (vertex_count s) (edge_count s) (edge_has s v) (edge_box s) b₂)
    (triangles : Mended b₂ (vertex_count s + edge_count s) (triangle_count s) (triangle_has s v) (triangle_box s) b₃) where
  -- what stands in front of triangles, and of edges
  before_triangles : (k : ℕ) → k < vertex_count s + edge_count s → box_at b₃ k ≡ box_at b₂ k
  before_triangles k h = same_box b₂ b₃ k (λ i p q. triangles.front i (omega arith))

  before_edges : (k : ℕ) → k < vertex_count s → box_at b₂ k ≡ box_at b₁ k
  before_edges k h = same_box b₁ b₂ k (λ i p q. edges.front i (omega arith))

  behind_edges : (k : ℕ) → vertex_count s + edge_count s ≤ k → box_at b₂ k ≡ box_at b₁ k
  behind_edges k h = same_box b₁ b₂ k (λ i p q. edges.behind.at i (omega arith))

  vertex_box_lem : (u : ℕ) → box_at b₁ u ≡ cond (eqb u v) (vertex_box s u) (box_at b u)
  vertex_box_lem u =
      ⊎_elim
      (λ e. let same : u ≡ v = eqb-true u v e in rw (e, same) first.here)
      (λ e. rw e (others_kept first u (eqb-false u v e)))
      (either (eqb u v))

  pub boxes_moved : BoxesMoved s v b b₃
  boxes_moved =
      record {
        vertices = λ u h. before_triangles u (omega arith) ∙ before_edges u h ∙ vertex_box_lem u;
        edges = λ j h.
            before_triangles (edge_place s j) (omega arith) ∙ edges.boxes.at j h
            ∙ ap (λ (x : Box). cond (edge_has s v j) (edge_box s j) x) (others_kept first (edge_place s j) (omega arith));
        triangles = λ j h.
            triangles.boxes.at j h
            ∙ ap (λ (x : Box). cond (triangle_has s v j) (triangle_box s j) x)
            (behind_edges (triangle_place s j) (omega arith) ∙ others_kept first (triangle_place s j) (omega arith));
        behind = record {
          at = λ i h. triangles.behind.at i (omega arith) ∙ edges.behind.at i (omega arith) ∙ first.behind i (omega arith);
          same = triangles.behind.same ∙ edges.behind.same ∙ first.same;
        };
      }
