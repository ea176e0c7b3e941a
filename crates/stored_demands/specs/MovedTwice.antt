-- Moves one behind the other, shown of the small scenes: two vertices of an unsewn scene, and the two vertices of a seam with the seams left out.
use Rattle.std.specs.Prelude.{ℕ, zero, suc, ◌+◌, ◌*◌, ◌≤◌, ◌<◌, false, cond, List, [], ◌∷◌, ◌++◌, ◌≡◌, ℤ, pos, neg_ℤ, length, get_or, replicate, Ok}
use Rattle.std.proofs.Math.Path.{refl}
use Rattle.std.proofs.Common.{sym, ◌∙◌, arith, le-ltb}
use Rattle.std.proofs.Math.Dec.{eqb}
use Rattle.std.proofs.Math.ListN.{length-append}
use Rattle.std.proofs.lemmas.List.{length-replicate}
use Rattle.meaning.specs.Scene.{Scene, Accepted, stood_for, some_below}
use Rattle.meaning.specs.Refusals.{Answers, given, outcome_alone}
use Rattle.meaning.specs.StoredBoxes.{box_at, vertex_box, edge_box, triangle_box, edge_place, triangle_place, KeptBehind, short_boxes, box_numbers}
use Rattle.meaning.specs.Dragging.{placed, moved_scene, move_checks, edge_has, triangle_has, BoxesMoved, MovesAfter, VertexMoved}
use Rattle.stored_laws.specs.Checks.{boxed_accepted}
use Rattle.stored_demands.specs.Chain.{Move, Dragged, Right}
use Rattle.stored_demands.specs.Shown.{six, scene, boxes, sewn}

-- ---- what stands behind two lists of one length

behind_alike : (a b rest : List ℤ) → length a ≡ length b → (i : ℕ) → length a ≤ i → get_or (b ++ rest) i (pos 0) ≡ get_or (a ++ rest) i (pos 0)
behind_alike [] [] rest e i h = refl
behind_alike [] (y ∷ b) rest e i h = absurd (omega arith)
behind_alike (x ∷ a) [] rest e i h = absurd (omega arith)
behind_alike (x ∷ a) (y ∷ b) rest e zero h = absurd (omega arith)
behind_alike (x ∷ a) (y ∷ b) rest e (suc i) h = behind_alike a b rest (omega arith) i (omega arith)

pub kept : (a b rest : List ℤ) (n : ℕ) → length a ≡ 6 * n → length b ≡ 6 * n → KeptBehind (a ++ rest) (b ++ rest) n
kept a b rest n many also = record {
  at = λ i h. behind_alike a b rest (many ∙ sym also) i (omega arith);
  same = omega (arith, length-append a rest, length-append b rest);
}

-- ---- one move that is accepted

abbrev Fine : Unit {0} → Type 0
Fine t = Unit {0}

pub move_shown : (s : Scene) (v : ℕ) (c b b' : List ℤ) → short_boxes b ≡ false → Accepted s
    → Answers (move_checks s v c) Fine (given tt) → BoxesMoved (moved_scene s v c) v b b'
    → VertexMoved s v c (placed s.positions v c) b b' (Ok tt)
unfolding outcome_alone MovesAfter
move_shown s v c b b' long accepted checks boxes = record {
  answer = boxed_accepted s b (move_checks s v c) Fine long (given tt) accepted checks;
  buffers = (refl, boxes);
}

-- what holds of each of four, and of the only one
pub each_of_four : (P : ℕ → Type 0) → P 0 → P 1 → P 2 → P 3 → (u : ℕ) → u < 4 → P u
each_of_four P a b c d zero h = a
each_of_four P a b c d (suc zero) h = b
each_of_four P a b c d (suc (suc zero)) h = c
each_of_four P a b c d (suc (suc (suc zero))) h = d
each_of_four P a b c d (suc (suc (suc (suc u)))) h = absurd (omega arith)

pub only_one : (P : ℕ → Type 0) → P 0 → (u : ℕ) → u < 1 → P u
only_one P a zero h = a
only_one P a (suc u) h = absurd (omega arith)

-- the boxes of four vertices, of an edge and of a triangle, as a move of vertex v to the scene s leaves them
abbrev pub VertexAfter : Scene → ℕ → List ℤ → List ℤ → ℕ → Type 0
VertexAfter s v b b' u = box_at b' u ≡ cond (eqb u v) (vertex_box s u) (box_at b u)

abbrev pub EdgeAfter : Scene → ℕ → List ℤ → List ℤ → ℕ → Type 0
EdgeAfter s v b b' j = box_at b' (edge_place s j) ≡ cond (edge_has s v j) (edge_box s j) (box_at b (edge_place s j))

abbrev pub TriangleAfter : Scene → ℕ → List ℤ → List ℤ → ℕ → Type 0
TriangleAfter s v b b' j = box_at b' (triangle_place s j) ≡ cond (triangle_has s v j) (triangle_box s j) (box_at b (triangle_place s j))

-- ---- two vertices of a scene without seams

abbrev pub up : List ℤ
up = six (pos 1) (pos 1) (pos 2) (pos 2) (pos 2) (neg_ℤ (pos 1))

abbrev pub over : List ℤ
over = six (pos 0) (pos 0) (pos 1) (pos 0) (pos 0) (pos 1)

abbrev pub two_moves : List Move
two_moves = record { vertex = 3; to = up } ∷ record { vertex = 0; to = over } ∷ []

-- the boxes after the first move, and after the second
abbrev pub boxes_between : List ℤ
boxes_between =
    six (pos 0) (pos 0) (pos 0) (pos 0) (pos 0) (pos 0) ++ six (pos 4) (pos 0) (pos 0) (pos 4) (pos 0) (pos 0)
    ++ six (pos 0) (pos 4) (pos 0) (pos 0) (pos 4) (pos 0)
    ++ six (pos 1) (pos 1) (neg_ℤ (pos 1)) (pos 2) (pos 2) (pos 2)
    ++ six (pos 0) (pos 0) (neg_ℤ (pos 1)) (pos 2) (pos 2) (pos 2)
    ++ six (pos 0) (pos 0) (pos 0) (pos 4) (pos 4) (pos 0)

abbrev pub boxes_after : List ℤ
boxes_after =
    six (pos 0) (pos 0) (pos 1) (pos 0) (pos 0) (pos 1) ++ six (pos 4) (pos 0) (pos 0) (pos 4) (pos 0) (pos 0)
    ++ six (pos 0) (pos 4) (pos 0) (pos 0) (pos 4) (pos 0)
    ++ six (pos 1) (pos 1) (neg_ℤ (pos 1)) (pos 2) (pos 2) (pos 2)
    ++ six (pos 0) (pos 0) (neg_ℤ (pos 1)) (pos 2) (pos 2) (pos 2)
    ++ six (pos 0) (pos 0) (pos 0) (pos 4) (pos 4) (pos 1)

-- any numbers may stand behind the six boxes, so many that the buffer is long enough
module _ (rest : List ℤ) (room : box_numbers ≤ length rest) where
  pub long : (b : List ℤ) → short_boxes (b ++ rest) ≡ false
  long b = le-ltb (length (b ++ rest)) box_numbers (omega (arith, length-append b rest))

  first_boxes : BoxesMoved (moved_scene scene 3 up) 3 (boxes ++ rest) (boxes_between ++ rest)
  first_boxes = record {
    vertices = each_of_four (VertexAfter (moved_scene scene 3 up) 3 (boxes ++ rest) (boxes_between ++ rest)) refl refl refl refl;
    edges = only_one (EdgeAfter (moved_scene scene 3 up) 3 (boxes ++ rest) (boxes_between ++ rest)) refl;
    triangles = only_one (TriangleAfter (moved_scene scene 3 up) 3 (boxes ++ rest) (boxes_between ++ rest)) refl;
    behind = kept boxes boxes_between rest 6 refl refl;
  }

  second_boxes : BoxesMoved (moved_scene (moved_scene scene 3 up) 0 over) 0 (boxes_between ++ rest) (boxes_after ++ rest)
  second_boxes = record {
    vertices = each_of_four (VertexAfter (moved_scene (moved_scene scene 3 up) 0 over) 0 (boxes_between ++ rest) (boxes_after ++ rest)) refl refl refl refl;
    edges = only_one (EdgeAfter (moved_scene (moved_scene scene 3 up) 0 over) 0 (boxes_between ++ rest) (boxes_after ++ rest)) refl;
    triangles = only_one (TriangleAfter (moved_scene (moved_scene scene 3 up) 0 over) 0 (boxes_between ++ rest) (boxes_after ++ rest)) refl;
    behind = kept boxes_between boxes_after rest 6 refl refl;
  }

  pub moved_twice : Dragged scene (boxes ++ rest) two_moves (boxes_after ++ rest)
  unfolding Dragged Answers some_below stood_for
  moved_twice = (
    boxes_between ++ rest,
    placed scene.positions 3 up,
    move_shown scene 3 up (boxes ++ rest) (boxes_between ++ rest) (long boxes)
        (record { shapely = refl; in_range = refl; known = refl; sewn_well = refl; distinct = refl }) tt first_boxes,
    (
      boxes_after ++ rest,
      placed (moved_scene scene 3 up).positions 0 over,
      move_shown (moved_scene scene 3 up) 0 over (boxes_between ++ rest) (boxes_after ++ rest) (long boxes_between)
          (record { shapely = refl; in_range = refl; known = refl; sewn_well = refl; distinct = refl }) tt second_boxes,
      refl,
    ),
  )

-- ---- both vertices of a seam

abbrev pub aside : List ℤ
aside = six (pos 1) (pos 0) (pos 0) (pos 1) (pos 0) (pos 2)

abbrev pub sewn_boxes : List ℤ
sewn_boxes =
    six (pos 0) (pos 0) (pos 0) (pos 0) (pos 0) (pos 0) ++ six (pos 4) (pos 0) (pos 0) (pos 4) (pos 0) (pos 0)
    ++ six (pos 0) (pos 4) (pos 0) (pos 0) (pos 4) (pos 0)
    ++ six (pos 0) (pos 0) (pos 0) (pos 0) (pos 0) (pos 0)
    ++ six (pos 0) (pos 0) (pos 0) (pos 4) (pos 0) (pos 0)
    ++ six (pos 0) (pos 0) (pos 0) (pos 4) (pos 4) (pos 0)

abbrev pub sewn_between : List ℤ
sewn_between =
    six (pos 0) (pos 0) (pos 0) (pos 0) (pos 0) (pos 0) ++ six (pos 4) (pos 0) (pos 0) (pos 4) (pos 0) (pos 0)
    ++ six (pos 0) (pos 4) (pos 0) (pos 0) (pos 4) (pos 0)
    ++ six (pos 1) (pos 0) (pos 0) (pos 1) (pos 0) (pos 2)
    ++ six (pos 1) (pos 0) (pos 0) (pos 4) (pos 0) (pos 2)
    ++ six (pos 0) (pos 0) (pos 0) (pos 4) (pos 4) (pos 0)

abbrev pub sewn_after : List ℤ
sewn_after =
    six (pos 1) (pos 0) (pos 0) (pos 1) (pos 0) (pos 2) ++ six (pos 4) (pos 0) (pos 0) (pos 4) (pos 0) (pos 0)
    ++ six (pos 0) (pos 4) (pos 0) (pos 0) (pos 4) (pos 0)
    ++ six (pos 1) (pos 0) (pos 0) (pos 1) (pos 0) (pos 2)
    ++ six (pos 1) (pos 0) (pos 0) (pos 4) (pos 0) (pos 2)
    ++ six (pos 0) (pos 0) (pos 0) (pos 4) (pos 4) (pos 2)

-- the vertices that stand for vertex 0
abbrev pub both : List ℕ
both = 3 ∷ 0 ∷ []

module _ (rest : List ℤ) (room : box_numbers ≤ length rest) where
  -- the scene and its boxes before
  pub sewn_right : Right sewn (sewn_boxes ++ rest)
  unfolding some_below stood_for
  sewn_right = record {
    accepted = record { shapely = refl; in_range = refl; known = refl; sewn_well = refl; distinct = refl };
    boxed = record {
      vertices = record { at = each_of_four (λ u. box_at (sewn_boxes ++ rest) (0 + u) ≡ vertex_box sewn u) refl refl refl refl };
      edges = record { at = only_one (λ j. box_at (sewn_boxes ++ rest) (4 + j) ≡ edge_box sewn j) refl };
      triangles = record { at = only_one (λ j. box_at (sewn_boxes ++ rest) (5 + j) ≡ triangle_box sewn j) refl };
      room = omega (arith, length-append sewn_boxes rest);
    };
    long = long rest room sewn_boxes;
  }

-- there are such numbers
pub so_much_room : box_numbers ≤ length (replicate box_numbers (pos 0))
so_much_room = rw (length-replicate box_numbers (pos 0)) (omega arith)
