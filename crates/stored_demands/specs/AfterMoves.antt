-- 'Demands 2 and 3 read over the scene after the move': what stands in the buffers after moves is that scene, it is accepted, and both demands
-- hold of it.
use Rattle.std.specs.Prelude.{ℕ, false, List, ◌++◌, ◌≡◌, refl, ℤ, Ok, Result}
use Rattle.std.proofs.Common.{sym, ap, subst, arith}
use Rattle.whole.specs.Vector.{Vector}
use Rattle.whole.specs.VectorLaws.{Matrix}
use Rattle.meaning.specs.Limits.{coordinate_limit}
use Rattle.meaning.specs.Scene.{Scene, scene_of, Accepted, AcceptedWithin}
use Rattle.meaning.specs.Refusals.{given, not_there, shares, outcome_alone}
use Rattle.meaning.specs.Boxes.{boxes_meet}
use Rattle.meaning.specs.List.{pairs}
use Rattle.meaning.specs.SceneWords.{SettledScene}
use Rattle.meaning.specs.StoredBoxes.{short_boxes, box_checks, SettledStored}
use Rattle.meaning.specs.Dragging.{moved_scene, move_checks, MovesAfter, VertexMoved}
use Rattle.meaning.specs.declared.Kind.{Kind}
use Rattle.theory.specs.Moved.{Moves}
use Rattle.answers.specs.Deciding.{NoneHolds, given_exactly}
use Rattle.demands.specs.Demand1.{then_accepted}
use Rattle.demands.specs.Demand2.{AnswersAsDemanded, demand2_answers, ListAsDemanded, demand2_list, ApartAsDemanded, demand2_culled}
use Rattle.demands.specs.Demand3.{KeepsVerdicts, demand3}
use Rattle.stored_demands.specs.Fresh.{stored_words}
use Rattle.stored_demands.specs.Chain.{move_done, Move, moved_all, Dragged, Right, moves_stay_right}
use Rattle.meaning.specs.declared.Refused.{Refused}

-- the buffers after an accepted move hold the scene after it
abbrev pub left_by : Scene → List ℤ → Scene
left_by s p' = scene_of p' s.edges s.triangles s.seams

pub buffers_after_move : (s : Scene) (v : ℕ) (c p' b b' : List ℤ) → VertexMoved s v c p' b b' (Ok tt)
    → left_by s p' ≡ moved_scene s v c
unfolding outcome_alone MovesAfter
buffers_after_move s v c p' b b' m = ap (left_by s) m.buffers.0

-- an accepted move had an accepted scene and a box buffer long enough, and leaves an accepted scene
pub move_began : (s : Scene) (v : ℕ) (c p' b b' : List ℤ) → VertexMoved s v c p' b b' (Ok tt)
    → (short_boxes b ≡ false) × Accepted s
unfolding outcome_alone NoneHolds
move_began s v c p' b b' m =
    let none = (given_exactly (λ t. Unit {0}) (box_checks s b ++ move_checks s v c) (given tt) m.answer).0 (tt, refl) in
    (none.0, (then_accepted.0 none.1).0)

pub move_accepted : (s : Scene) (v : ℕ) (c p' b b' : List ℤ) → VertexMoved s v c p' b b' (Ok tt)
    → Accepted (left_by s p')
move_accepted s v c p' b b' m =
    let (long, a) = move_began s v c p' b b' m in
    subst Accepted (sym (buffers_after_move s v c p' b b' m)) (move_done s v c p' b b' a long m).accepted

-- ---- demand 2

pub record AsDemanded (s : Scene) : Type 0 where
  pub answers : (kind : Kind) (i j : ℕ) → not_there s kind i j ≡ false → shares s kind i j ≡ false → AnswersAsDemanded s kind i j
  pub list : ListAsDemanded s (pairs s)
  pub culled : (kind : Kind) (i j : ℕ) → shares s kind i j ≡ false → boxes_meet s kind i j ≡ false → ApartAsDemanded s kind i j

module _ (s : Scene) (b : List ℤ) (ms : List Move) (b' : List ℤ) (so : Right s b) (d : Dragged s b ms b') where
  pub demand2_after_moves : AsDemanded (moved_all s ms)
  demand2_after_moves = record {
    answers = λ kind i j there apart.
        demand2_answers coordinate_limit (omega arith) (moves_stay_right s b ms b' so d).accepted kind i j there apart;
    list = demand2_list (moved_all s ms);
    culled = demand2_culled (moved_all s ms);
  }

  -- and the words that are told from the stored boxes are those of that scene
  pub words_after_moves : (o o' w w' : List ℕ) (r : Result ℕ Refused) → SettledStored (moved_all s ms) b' o o' w w' r
      → SettledScene (moved_all s ms) o o' w w' r
  words_after_moves o o' w w' r p =
      let after = moves_stay_right s b ms b' so d in
      stored_words (moved_all s ms) b' after.accepted after.long after.boxed o o' w w' r p

  -- ---- demand 3: the scene after moves, and any accepted scene that it is sent to
  pub demand3_after_moves : {m : Matrix} {x y : Vector} {t : Scene} {C : ℕ} → Moves m x y (moved_all s ms) t → AcceptedWithin C t
      → (kind : Kind) (i j : ℕ) → not_there (moved_all s ms) kind i j ≡ false → shares (moved_all s ms) kind i j ≡ false
      → KeepsVerdicts (moved_all s ms) t kind i j
  demand3_after_moves moves also kind i j there apart =
      demand3 moves (moves_stay_right s b ms b' so d).accepted also kind i j there apart
