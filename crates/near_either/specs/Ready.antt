-- What is planted for near rows: the nodes of both times, and in front of them the trees of swept boxes; their shift is 0 where no such nodes are.
use Rattle.std.specs.Prelude.{ℕ, ◌≤◌, ◌<◌, List, ◌≡◌, ℤ, length}
use Rattle.std.proofs.Common.{not-suc-le-zero}
use Rattle.meaning.specs.Scene.{Scene}
use Rattle.meaning.specs.declared.RowPairs.{RowPairs}
use Rattle.meaning.specs.declared.RowPairs.TheVariants.{Near}
use Rattle.mesh_boxes.specs.Led.{none_lent}
use Rattle.mesh_trees.specs.Planting.{Plantable, Planted}
use Rattle.mesh_trees.specs.Forest.{planted_forest}
use Rattle.near_trees.specs.Frames.{node_room, frames_room}
use Rattle.near_trees.specs.Standing.{Frames, planted_from, frames_stay, edge_nodes_lem, triangle_nodes_lem}
use Rattle.near_runs.specs.Near.{NearForest}

-- near rows are asked for, no order is lent, and there is room
pub record GoesNear (w : RowPairs) (s : Scene) (m n : List ℕ) (l : List ℤ) : Type 0 where
  pub near : w ≡ Near
  pub no_edges : length m ≡ 0
  pub no_triangles : length n ≡ 0
  pub room : frames_room s ≤ length l

pub near_forest : {s : Scene} {m n : List ℕ} {b b' : List ℤ} {e e' t t' : List ℕ} {edge_top triangle_top : ℕ} → Plantable s b → 34 ≤ length e
    → 34 ≤ length t
    → length m ≡ 0 → length n ≡ 0 → Frames s b → Planted s m n b b' e e' t t' edge_top triangle_top
    → NearForest s b' e' t' edge_top triangle_top (node_room s)
near_forest {s} {m} {n} can long wide edgeless faceless frames p =
    let forest = planted_forest can long wide (none_lent _ m edgeless) (none_lent _ n faceless) p in
    let stay = frames_stay (planted_from p) frames in
    record {
      edge_order = m;
      triangle_order = n;
      no_edges = edgeless;
      no_triangles = faceless;
      forest = forest;
      edges = edge_nodes_lem p forest stay;
      triangles = triangle_nodes_lem p forest stay;
    }

-- ---- by a shift

-- the nodes of both times are planted
pub record NodesPlanted (w : RowPairs) (s : Scene) (m n : List ℕ) (l : List ℤ) (shift : ℕ) : Type 0 where
  pub near : 0 < shift → w ≡ Near
  pub no_edges : 0 < shift → length m ≡ 0
  pub no_triangles : 0 < shift → length n ≡ 0
  pub frames : 0 < shift → Frames s l
  pub far : 0 < shift → shift ≡ node_room s

-- and the trees of swept boxes in front of them
pub record NodesReady (w : RowPairs) (s : Scene) (l : List ℤ) (e t : List ℕ) (edge_top triangle_top shift : ℕ) : Type 0 where
  pub near : 0 < shift → w ≡ Near
  pub forest : 0 < shift → NearForest s l e t edge_top triangle_top shift

pub nodes_planted : {w : RowPairs} {s : Scene} {m n : List ℕ} {l : List ℤ} {shift : ℕ} → w ≡ Near → length m ≡ 0 → length n ≡ 0 → Frames s l
    → shift ≡ node_room s
    → NodesPlanted w s m n l shift
nodes_planted near edgeless faceless frames far =
    record { near = λ _. near; no_edges = λ _. edgeless; no_triangles = λ _. faceless; frames = λ _. frames; far = λ _. far }

pub none_planted : (w : RowPairs) (s : Scene) (m n : List ℕ) (l : List ℤ) → NodesPlanted w s m n l 0
none_planted w s m n l =
    record {
      near = λ h. absurd (not-suc-le-zero h);
      no_edges = λ h. absurd (not-suc-le-zero h);
      no_triangles = λ h. absurd (not-suc-le-zero h);
      frames = λ h. absurd (not-suc-le-zero h);
      far = λ h. absurd (not-suc-le-zero h);
    }

pub nodes_ready : {w : RowPairs} {s : Scene} {m n : List ℕ} {b b' : List ℤ} {e e' t t' : List ℕ} {edge_top triangle_top shift : ℕ} → Plantable s b
    → 34 ≤ length e → 34 ≤ length t
    → NodesPlanted w s m n b shift
    → Planted s m n b b' e e' t t' edge_top triangle_top
    → NodesReady w s b' e' t' edge_top triangle_top shift
nodes_ready can long wide so p =
    record {
      near = so.near;
      forest = λ h. rw (so.far h) (near_forest can long wide (so.no_edges h) (so.no_triangles h) (so.frames h) p);
    }
