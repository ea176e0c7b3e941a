-- Boxes that are the ones worked out are never refused with 17, and the list made from them is the list of the scene.
use Rattle.std.specs.Prelude.{ℕ, ◌≤◌, ◌<◌, min, Bool, true, false, ◌||◌, List, [], ◌++◌, ◌≡◌, refl, ℤ, pos, negsuc, length, Result}
use Rattle.std.proofs.Common.{sym, ap, ◌∙◌, zero-add, arith, le-ltb}
use Rattle.meaning.specs.Scene.{Scene, Accepted, vertex_count, edge_count, triangle_count, some_below, differ}
use Rattle.meaning.specs.Boxes.{Span}
use Rattle.meaning.specs.Refusals.{Outcome, given, Answers, outcome_of}
use Rattle.meaning.specs.List.{pairs, room_of, list_checks, Counted, Listing}
use Rattle.meaning.specs.SceneWords.{SettledScene}
use Rattle.meaning.specs.StoredBoxes.{Box, box_at, vertex_box, edge_box, triangle_box, Boxed, short_boxes, other_span, other_box, stale_vertex, stale_edge, stale_triangle, stale_box, box_checks, stale_checks, stored_checks, CountedStored, ListedStored, SettledStored}
use Rattle.answers.specs.Answering.{is_past}
use Rattle.scene_checks.specs.Accepting.{after_accepted}
use Rattle.answers.specs.Below.{none_below}
use Rattle.stored_laws.specs.Checks.{past_boxed}
use Rattle.list_pairs.specs.Answering.{IsCount, room_checks}
use Rattle.meaning.specs.declared.Refused.{Refused}

pub no_other : (z : ℤ) → differ z z ≡ false
no_other (pos n) = rw (le-ltb n n (omega arith))
no_other (negsuc n) = rw (le-ltb n n (omega arith))

no_other_span : (p : Span) → other_span p p ≡ false
no_other_span p = rw (no_other p.low, no_other p.high)

no_other_box : (b : Box) → other_box b b ≡ false
no_other_box b = rw (no_other_span b.x, no_other_span b.y, no_other_span b.z)

same_is_no_other : (a b : Box) → a ≡ b → other_box a b ≡ false
same_is_no_other a b e = ap (λ (x : Box). other_box x b) e ∙ no_other_box b

-- 17 only where a stored box isn't the one worked out
pub right_not_stale : (s : Scene) (b : List ℤ) → Boxed s b → stale_box s b ≡ false
right_not_stale s b so =
    let v = none_below (stale_vertex s b) (vertex_count s) (λ i h. same_is_no_other (box_at b i) (vertex_box s i) (rw zero-add at (so.vertices.at i h))) in
    let e = none_below (stale_edge s b) (edge_count s) (λ i h. same_is_no_other _ (edge_box s i) (so.edges.at i h)) in
    let t = none_below (stale_triangle s b) (triangle_count s) (λ i h. same_is_no_other _ (triangle_box s i) (so.triangles.at i h)) in
    rw (v, e, t)

-- 'The list is made from the stored boxes': where they are right it is the list of the scene, to the last number of the lent buffer
module _ (s : Scene) (b : List ℤ) (a : Accepted s) (long : short_boxes b ≡ false) (so : Boxed s b) where
  pub stored_count : (r : Result ℕ Refused) → CountedStored s b r → Counted s r
  stored_count r p =
      after_accepted s [] (IsCount s) (outcome_of r) a
      (is_past (IsCount s) _ [] (outcome_of r) (right_not_stale s b so) (past_boxed s b (stale_checks s b) (IsCount s) long (outcome_of r) a p))

  past_stale : (room : ℕ) (r : Result ℕ Refused) → Answers (box_checks s b ++ stored_checks s b room) (IsCount s) (outcome_of r)
      → Answers (list_checks s room) (IsCount s) (outcome_of r)
  past_stale room r p =
      after_accepted s (room_checks s room) (IsCount s) (outcome_of r) a
      (is_past (IsCount s) _ (room_checks s room) (outcome_of r) (right_not_stale s b so)
      (past_boxed s b (stored_checks s b room) (IsCount s) long (outcome_of r) a p))

  pub stored_list : (o o' : List ℕ) (r : Result ℕ Refused) → ListedStored s b o o' r → Listing s o o' r
  stored_list o o' r p = record { answer = past_stale (room_of o) r p.answer; buffer = p.buffer }

  -- and judged as the scene is
  pub stored_words : (o o' w w' : List ℕ) (r : Result ℕ Refused) → SettledStored s b o o' w w' r → SettledScene s o o' w w' r
  stored_words o o' w w' r p =
      record {
        answer = past_stale (min (room_of o) (length w)) r p.answer;
        list = p.list;
        words = p.words;
        right = p.right;
        bytes = p.bytes;
      }
