-- Two boxes of the list meet exactly when those of the scene do.
use Rattle.std.specs.Prelude.{ℕ, ◌<◌, List, Bool, true, false, not, ◌≡◌, ℤ}
use Rattle.std.proofs.Math.Bool.{and-true, and-false}
use Rattle.std.proofs.Common.{sym, ◌∙◌}
use Rattle.std.proofs.Math.Nat.{zero-add}
use Rattle.meaning.specs.Scene.{Scene, vertex_count, edge_count, triangle_count}
use Rattle.meaning.specs.Boxes.{listed, boxes_meet, meet_on}
use Rattle.meaning.specs.Refusals.{shares}
use Rattle.meaning.specs.declared.Kind.{Kind}
use Rattle.meaning.specs.declared.Kind.TheVariants.{PointTriangle, EdgeEdge}
use Rattle.meaning.specs.StoredBoxes.{box_at, vertex_box, edge_place, triangle_place, Boxed}
use Rattle.list_boxes.specs.Kept.{meet_boxes}

-- the test of two of the boxes is the test of the scene's
module _ {s : Scene} {l : List ℤ} (so : Boxed s l) (i j : ℕ) {a b : ℕ} {meets : Bool} (tested : meets ≡ meet_boxes (box_at l a) (box_at l b)) where
  pub meets_pt : a ≡ i → b ≡ triangle_place s j → i < vertex_count s → j < triangle_count s → meets ≡ boxes_meet s PointTriangle i j
  unfolding meet_on
  meets_pt p q h k =
      let one : box_at l i ≡ vertex_box s i = rw zero-add at (so.vertices.at i h) in
      let two = so.triangles.at j k in
      tested ∙ (λ t. meet_boxes (box_at l (p t)) (box_at l (q t))) ∙ λ t. meet_boxes (one t) (two t)

  pub meets_ee : a ≡ edge_place s i → b ≡ edge_place s j → i < edge_count s → j < edge_count s → meets ≡ boxes_meet s EdgeEdge i j
  unfolding meet_on
  meets_ee p q h k =
      let one = so.edges.at i h in
      let two = so.edges.at j k in
      tested ∙ (λ t. meet_boxes (box_at l (p t)) (box_at l (q t))) ∙ λ t. meet_boxes (one t) (two t)

-- boxes first: a pair whose boxes meet is listed unless it shares a vertex, and one whose boxes are apart is not
module _ (s : Scene) (kind : Kind) (i j : ℕ) {meets : Bool} (e : meets ≡ boxes_meet s kind i j) where
  pub listed_unless : {shared : Bool} → meets ≡ true → shared ≡ shares s kind i j → not shared ≡ listed s kind i j
  listed_unless {shared} t p = rw (← e, t, ← p) (sym (and-true (not shared)))

  pub not_listed : meets ≡ false → false ≡ listed s kind i j
  not_listed t = rw (← e, t) (sym (and-false (not (shares s kind i j))))
