-- The calls of a scene that keeps its boxes: the promise determines the number and every lent buffer, and what a caller hears in the number is
-- right.
use Rattle.std.specs.Prelude.{ℕ, min, List, [], ◌∷◌, ◌++◌, map, ◌≡◌, ℤ, length, Result}
use Rattle.std.proofs.Common.{sym, ap, ◌∙◌}
use Rattle.meaning.specs.Scene.{Scene}
use Rattle.meaning.specs.Refusals.{given, refused, Answers, outcome_of}
use Rattle.meaning.specs.List.{pairs, entries, room_of, leaves}
use Rattle.meaning.specs.Runs.{tests_left, Tested}
use Rattle.meaning.specs.SceneWords.{byte_of}
use Rattle.meaning.specs.StoredBoxes.{box_checks, stale_checks, stored_checks, Filled, FillsAfter, BoxesFilled, CountedStored, ListedStored, SettledStored}
use Rattle.meaning.specs.Dragging.{move_checks, MovesAfter, VertexMoved}
use Rattle.meaning.specs.declared.SceneCounts.{SceneCounts}
use Rattle.text_scene.specs.Using.{front_of}
use Rattle.stored_reading.specs.Using.{one_boxed_reading}
use Rattle.demands.specs.Unchanged.{SceneInFront}
use Rattle.stored_demands.specs.AfterReading.{boxed_unchanged, boxed_holds}
use Rattle.stored_demands.specs.Demand1.{BoxedTextRows, demand1_boxed_text}
use Rattle.stored_move.specs.OneResult.{one_filled, one_moved}
use Rattle.stored_list.specs.OneResult.{one_stored_count, one_stored_listing, one_stored_words}
use Rattle.meaning.specs.Numbers.{scene_number, list_number, text_number, counts_left, Numbered}
use Rattle.c_numbers.specs.Stored.{stored_count_small, stored_list_small, stored_words_small, boxed_line_small}
use Rattle.meaning.specs.Numbers.{BoxedInto}
use Rattle.c_numbers.specs.Back.{heard, no_more, count, counts_in, scene_heard, list_heard, text_heard}
use Rattle.c_demands.specs.OneResult.{counts_refused, counts_given}
use Rattle.meaning.specs.declared.Refused.{Refused}

pub one_filled_told : (s : Scene) (b b₁ b₂ : List ℤ) (r r' : ℕ) → Numbered scene_number (BoxesFilled s b b₁) r → Numbered scene_number (BoxesFilled s b b₂) r'
    → (r ≡ r') × (b₁ ≡ b₂)
one_filled_told s b b₁ b₂ r r' p q =
    let (same, boxes) = one_filled s b b₁ b₂ p.answer q.answer p.right q.right in
    (p.is ∙ ap scene_number same ∙ sym q.is, boxes)

pub one_moved_told : (s : Scene) (v : ℕ) (c p₁ p₂ b b₁ b₂ : List ℤ) (r r' : ℕ) → Numbered scene_number (VertexMoved s v c p₁ b b₁) r
    → Numbered scene_number (VertexMoved s v c p₂ b b₂) r' → (r ≡ r') × (p₁ ≡ p₂) × (b₁ ≡ b₂)
one_moved_told s v c p₁ p₂ b b₁ b₂ r r' p q =
    let (same, places, boxes) = one_moved s v c p₁ p₂ b b₁ b₂ p.answer q.answer p.right q.right in
    (p.is ∙ ap scene_number same ∙ sym q.is, places, boxes)

pub one_stored_count_told : (s : Scene) (b : List ℤ) (t t' t'' : List ℕ) (r r' : ℕ) → Numbered list_number (Tested s (CountedStored s b) t t') r
    → Numbered list_number (Tested s (CountedStored s b) t t'') r' → (r ≡ r') × (t' ≡ t'')
one_stored_count_told s b t t' t'' r r' p q =
    let (same, tests) = one_stored_count s b t t' t'' p.answer q.answer p.right q.right in
    (p.is ∙ ap list_number same ∙ sym q.is, tests)

pub one_stored_list_told : (s : Scene) (b : List ℤ) (o o' o'' t t' t'' : List ℕ) (r r' : ℕ) → Numbered list_number (Tested s (ListedStored s b o o') t t') r
    → Numbered list_number (Tested s (ListedStored s b o o'') t t'') r' → (r ≡ r') × (o' ≡ o'') × (t' ≡ t'')
one_stored_list_told s b o o' o'' t t' t'' r r' p q =
    let (same, list, tests) = one_stored_listing s b o o' o'' t t' t'' p.answer q.answer p.right q.right in
    (p.is ∙ ap list_number same ∙ sym q.is, list, tests)

pub one_stored_words_told : (s : Scene) (b : List ℤ) (o o' o'' w w' w'' : List ℕ) (r r' : ℕ) → Numbered list_number (SettledStored s b o o' w w') r
    → Numbered list_number (SettledStored s b o o'' w w'') r' → (r ≡ r') × (o' ≡ o'') × (w' ≡ w'')
one_stored_words_told s b o o' o'' w w' w'' r r' p q =
    let (same, list, bytes) = one_stored_words s b o o' o'' w w' w'' p.answer q.answer p.right q.right in
    (p.is ∙ ap list_number same ∙ sym q.is, list, bytes)

pub one_boxed_told : (text : List ℕ) (lent left left' : Scene) (b b₁ b₂ : List ℤ) (l l' l'' : List ℕ) (r r' : ℕ)
    → Numbered text_number (BoxedInto text lent left b b₁ l l') r → Numbered text_number (BoxedInto text lent left' b b₂ l l'') r'
    → (r ≡ r') × (left ≡ left') × (b₁ ≡ b₂) × (l' ≡ l'')
one_boxed_told text lent left left' b b₁ b₂ l l' l'' r r' p q =
    let (same, scene, boxes) = one_boxed_reading text lent left left' b b₁ b₂ p.answer q.answer p.right.read q.right.read in (
      p.is ∙ ap text_number same ∙ sym q.is,
      scene,
      boxes,
      p.right.counts ∙ ap (λ (a : Result SceneCounts Refused). counts_left a l) same ∙ sym q.right.counts,
    )

-- ---- what is heard in the number is right

pub filled_heard : (s : Scene) (b b' : List ℤ) (r : ℕ) → Numbered scene_number (BoxesFilled s b b') r
    → Answers (box_checks s b) (λ t. Unit {0}) (heard no_more r) × FillsAfter (heard no_more r) s b b'
filled_heard s b b' r p = rw (p.is, scene_heard p.answer) (p.right.answer, p.right.buffer)

pub moved_heard : (s : Scene) (v : ℕ) (c p' b b' : List ℤ) (r : ℕ) → Numbered scene_number (VertexMoved s v c p' b b') r
    → Answers (box_checks s b ++ move_checks s v c) (λ t. Unit {0}) (heard no_more r) × MovesAfter (heard no_more r) s v c p' b b'
moved_heard s v c p' b b' r p = rw (p.is, scene_heard p.answer) (p.right.answer, p.right.buffers)

pub stored_count_heard : (s : Scene) (b : List ℤ) (t t' : List ℕ) (r : ℕ) → Numbered list_number (Tested s (CountedStored s b) t t') r
    → Answers (box_checks s b ++ stale_checks s b) (λ n. n ≡ length (pairs s)) (heard count r) × (t' ≡ tests_left s (heard count r) t)
stored_count_heard s b t t' r p =
    rw (p.is, list_heard p.answer (stored_count_small s b p.answer p.right.list)) (p.right.list, p.right.tests)

pub stored_list_heard : (s : Scene) (b : List ℤ) (o o' t t' : List ℕ) (r : ℕ) → Numbered list_number (Tested s (ListedStored s b o o') t t') r
    → Answers (box_checks s b ++ stored_checks s b (room_of o)) (λ n. n ≡ length (pairs s)) (heard count r)
    × (o' ≡ leaves (heard count r) (entries (pairs s)) o)
    × (t' ≡ tests_left s (heard count r) t)
stored_list_heard s b o o' t t' r p =
    rw (p.is, list_heard p.answer (stored_list_small p.right.list)) (p.right.list.answer, p.right.list.buffer, p.right.tests)

pub stored_words_heard : (s : Scene) (b : List ℤ) (o o' w w' : List ℕ) (r : ℕ) → (p : Numbered list_number (SettledStored s b o o' w w') r)
    → Answers (box_checks s b ++ stored_checks s b (min (room_of o) (length w))) (λ n. n ≡ length (pairs s)) (heard count r)
    × (o' ≡ leaves (heard count r) (entries (pairs s)) o)
    × (w' ≡ leaves (heard count r) (map byte_of p.right.words) w)
stored_words_heard s b o o' w w' r p =
    rw (p.is, list_heard p.answer (stored_words_small p.right)) (p.right.answer, p.right.list, p.right.bytes)

-- of a text what the lent buffers then hold too: a refusal leaves all six as they were; after success the scene stands in front in four of them,
-- its boxes in the fifth, the counts in the sixth
pub boxed_told_heard : (text : List ℕ) (lent left : Scene) (b b' : List ℤ) (l l' : List ℕ) (r : ℕ)
    → Numbered text_number (BoxedInto text lent left b b' l l') r
    → BoxedTextRows text lent b (heard (counts_in l') r)
    × ((n line : ℕ) → heard (counts_in l') r ≡ refused n line → (left ≡ lent) × (b' ≡ b) × (l' ≡ l))
    × ((c : SceneCounts) → heard (counts_in l') r ≡ given c
    → SceneInFront text lent left c × Filled (front_of c left) b b' × (l' ≡ c.vertices ∷ c.edges ∷ c.triangles ∷ c.seams ∷ []))
boxed_told_heard text lent left b b' l l' r p =
    let so = p.right.read in
    let says : heard (counts_in l') r ≡ outcome_of p.answer = rw (p.is, p.right.counts) (text_heard p.answer l (boxed_line_small so)) in (
      rw says (demand1_boxed_text text lent left b b' p.answer so),
      λ n line e.
          let (scene, boxes) = boxed_unchanged so n line (sym says ∙ e) in
          (scene, boxes, p.right.counts ∙ counts_refused p.answer l n line (sym says ∙ e)),
      λ c e.
          let (scene, boxes) = boxed_holds so c (sym says ∙ e) in
          (scene, boxes, p.right.counts ∙ counts_given p.answer l c (sym says ∙ e)),
    )
