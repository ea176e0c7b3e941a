-- The boxes of a scene, and behind them the joint boxes of its runs.
use Rattle.std.specs.Prelude.{ℕ, ◌+◌, ◌*◌, ◌-◌, ◌/◌, ◌≤◌, ◌<◌, List, ◌≡◌, refl, ℤ, pos, length, get_or}
use Rattle.std.proofs.Common.{sym, ◌∙◌, arith}
use Rattle.meaning.specs.Scene.{Scene, Accepted, vertex_count, edge_count, triangle_count}
use Rattle.meaning.specs.Runs.{runs_of, run_from, run_to}
use Rattle.meaning.specs.declared.Kind.TheVariants.{PointTriangle, EdgeEdge}
use Rattle.scene_checks.specs.Facts.{accepted_sized}
use Rattle.meaning.specs.StoredBoxes.{Box, box_at, vertex_box, edge_box, triangle_box, BoxesStand, Boxed, box_numbers}
use Rattle.list_boxes.specs.Storing.{same_box}
use Rattle.list_runs.specs.Joined.{joint_boxes, joint_same}
use Rattle.list_runs.specs.Filled.{run_box_in, RunsFilling, RunsFilled, run_inside}
use Rattle.list_candidates.specs.Rows.{second_count}
use Rattle.list_walk.specs.Skipping.{second_box, run_box, all_parts, walk_numbers, Prepared}

-- boxes in front of where runs were filled in are as they were
front_box : {l l' : List ℤ} (first n to m : ℕ) → RunsFilling l first n to m l' → (k : ℕ) → k < to → box_at l' k ≡ box_at l k
front_box {l} {l'} first n to m so k h = same_box l l' k (λ i u v. so.front i (omega arith))

-- the run of boxes that are a scene's
run_of : (l : List ℤ) (first n : ℕ) (want : ℕ → Box) → ((j : ℕ) → j < n → box_at l (first + j) ≡ want j) → (r : ℕ) → r < runs_of n
    → run_box_in l first n r ≡ joint_boxes want (run_from r) (run_to n r - run_from r - 1)
run_of l first n want each r below =
    let (some, most) = run_inside n r below in
    joint_same (λ j. box_at l (first + j)) want (run_from r) (run_to n r - run_from r - 1) (λ j h k. each j (omega arith))

module _ {s : Scene} {l l₁ l₂ : List ℤ} (a : Accepted s) (boxed : Boxed s l)
    (edges : RunsFilled l (vertex_count s) (edge_count s) (all_parts s) l₁)
    (triangles : RunsFilled l₁ (vertex_count s + edge_count s) (triangle_count s) (all_parts s + runs_of (edge_count s)) l₂) where
  kept_once : (k : ℕ) → k < all_parts s → box_at l₁ k ≡ box_at l k
  kept_once = front_box (vertex_count s) (edge_count s) (all_parts s) (runs_of (edge_count s)) edges

  kept_twice : (k : ℕ) → k < all_parts s + runs_of (edge_count s) → box_at l₂ k ≡ box_at l₁ k
  kept_twice = front_box (vertex_count s + edge_count s) (triangle_count s) (all_parts s + runs_of (edge_count s)) (runs_of (triangle_count s)) triangles

  kept_all : (k : ℕ) → k < all_parts s → box_at l₂ k ≡ box_at l k
  kept_all k h = kept_twice k (omega arith) ∙ kept_once k h

  long : length l₂ ≡ length l
  long = triangles.same ∙ edges.same

  pub prepared : walk_numbers ≤ length l → Prepared s l₂
  unfolding second_box second_count
  prepared room =
      let sized = accepted_sized a in
      record {
        accepted = a;
        boxed = record {
          vertices = record { at = λ i h. kept_all (0 + i) (omega arith) ∙ boxed.vertices.at i h };
          edges = record { at = λ i h. kept_all (vertex_count s + i) (omega arith) ∙ boxed.edges.at i h };
          triangles = record { at = λ i h. kept_all (vertex_count s + edge_count s + i) (omega arith) ∙ boxed.triangles.at i h };
          room = omega (arith, long, boxed.room);
        };
        edge_runs = record {
          at = λ r h.
              kept_twice (all_parts s + r) (omega arith) ∙ edges.runs.at r h
              ∙ run_of l (vertex_count s) (edge_count s) (edge_box s) boxed.edges.at r h;
        };
        triangle_runs = record {
          at = λ r h.
              triangles.runs.at r h
              ∙ run_of l₁ (vertex_count s + edge_count s) (triangle_count s) (triangle_box s)
              (λ j k. kept_once (vertex_count s + edge_count s + j) (omega arith) ∙ boxed.triangles.at j k) r h;
        };
        room = omega (arith, long, sized.few_vertices, sized.few_edges, sized.few_triangles);
      }
