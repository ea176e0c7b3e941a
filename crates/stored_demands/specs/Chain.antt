-- Moves one after the other: the scene after them is accepted, its stored boxes are the ones worked out, and the list from them is its list.
use Rattle.std.specs.Prelude.{ℕ, false, List, [], ◌∷◌, ◌≡◌, ℤ, length, Ok, Result}
use Rattle.std.proofs.Common.{sym, subst, ◌∙◌, arith, leb-false, ltb-false, le-ltb}
use Rattle.meaning.specs.Scene.{Scene, Accepted, vertex_count}
use Rattle.meaning.specs.Refusals.{given, Answers, outcome_alone}
use Rattle.meaning.specs.List.{Listing}
use Rattle.meaning.specs.StoredBoxes.{Boxed, box_numbers, short_boxes, ListedStored}
use Rattle.meaning.specs.Dragging.{moved_scene, move_checks, new_outside, tears_seam, BoxesMoved, MovesAfter, VertexMoved}
use Rattle.answers.specs.Answering.{is_given}
use Rattle.stored_laws.specs.Checks.{past_boxed}
use Rattle.stored_laws.specs.Moved.{moved_accepted, boxes_stay_right}
use Rattle.stored_demands.specs.Fresh.{stored_list}
use Rattle.meaning.specs.declared.Refused.{Refused}

abbrev Fine : Unit {0} → Type 0
Fine t = Unit {0}

-- ---- one move

pub record Done (s : Scene) (v : ℕ) (c b b' : List ℤ) : Type 0 where
  pub accepted : Accepted (moved_scene s v c)
  pub moved : BoxesMoved (moved_scene s v c) v b b'

-- demands 2 and 3 read over the scene after the move: it is accepted
pub move_done : (s : Scene) (v : ℕ) (c p' b b' : List ℤ) → Accepted s → short_boxes b ≡ false
    → VertexMoved s v c p' b b' (Ok tt) → Done s v c b b'
unfolding outcome_alone MovesAfter
move_done s v c p' b b' a long m =
    let q : Answers (move_checks s v c) Fine (given tt) = past_boxed s b (move_checks s v c) Fine long (given tt) a m.answer in
    let (there, q1) = is_given Fine _ _ tt q in
    let (range, q2) = is_given Fine _ _ tt q1 in
    let (whole, q3) = is_given Fine _ _ tt q2 in
    record { accepted = moved_accepted s v c a (leb-false (vertex_count s) v there) range whole; moved = m.buffers.1 }

-- ---- moves one after the other

pub record Move : Type 0 where
  pub vertex : ℕ
  pub to : List ℤ

unfoldable pub moved_all : Scene → List Move → Scene
moved_all s [] = s
moved_all s (m ∷ ms) = moved_all (moved_scene s m.vertex m.to) ms

-- each was accepted, and the box buffer went from b to b'
unfoldable pub Dragged : Scene → List ℤ → List Move → List ℤ → Type 0
Dragged s b [] b' = b' ≡ b
Dragged s b (m ∷ ms) b' =
    (b₁ : List ℤ) × (p₁ : List ℤ) × VertexMoved s m.vertex m.to p₁ b b₁ (Ok tt)
    × Dragged (moved_scene s m.vertex m.to) b₁ ms b'

pub record Right (s : Scene) (b : List ℤ) : Type 0 where
  pub accepted : Accepted s
  pub boxed : Boxed s b
  pub long : short_boxes b ≡ false

pub still_long : (b b' : List ℤ) → length b' ≡ length b → short_boxes b ≡ false → short_boxes b' ≡ false
still_long b b' e h = rw e h

pub moves_stay_right : (s : Scene) (b : List ℤ) (ms : List Move) (b' : List ℤ) → Right s b → Dragged s b ms b' → Right (moved_all s ms) b'
unfolding moved_all Dragged
moves_stay_right s b [] b' so d = subst (Right s) (sym d) so
moves_stay_right s b (m ∷ ms) b' so (b₁, p₁, one, rest) =
    let done = move_done s m.vertex m.to p₁ b b₁ so.accepted so.long one in
    moves_stay_right (moved_scene s m.vertex m.to) b₁ ms b'
    (record {
      accepted = done.accepted;
      boxed = boxes_stay_right s m.vertex m.to so.boxed done.moved;
      long = still_long b b₁ done.moved.behind.same so.long;
    })
    rest

-- the list after moves is the list of the scene after them
pub list_after_moves : (s : Scene) (b : List ℤ) (ms : List Move) (b' : List ℤ) → Right s b → Dragged s b ms b' → (o o' : List ℕ) (r : Result ℕ Refused)
    → ListedStored (moved_all s ms) b' o o' r → Listing (moved_all s ms) o o' r
list_after_moves s b ms b' so d o o' r p =
    let after = moves_stay_right s b ms b' so d in
    stored_list (moved_all s ms) b' after.accepted after.long after.boxed o o' r p
