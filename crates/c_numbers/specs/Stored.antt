-- What an answer about a list made from stored boxes, or about a text read with its boxes, tells or carries stays below 2^32 too; and the
-- steps of such a text's answer to its number.
use Rattle.std.specs.Prelude.{ℕ, ◌+◌, ◌*◌, ◌<◌, min, ◌≡◌, ℤ, length, Err, Ok, Result}
use mathlib.Core.List.{List, [], ◌∷◌, ◌++◌}
use Rattle.std.proofs.Math.Path.{refl, subst}
use Rattle.std.proofs.Common.{arith}
use Rattle.meaning.specs.Scene.{Scene, Accepted}
use Rattle.meaning.specs.Refusals.{Outcome, Check, Answers, number_of, scene_checks, outcome_of}
use Rattle.meaning.specs.List.{room_of}
use Rattle.meaning.specs.StoredBoxes.{box_checks, stale_checks, stored_checks, short_boxes, CountedStored, ListedStored, SettledStored, BoxedRead}
use Rattle.meaning.specs.declared.SceneCounts.{SceneCounts}
use Rattle.answers.specs.Answering.{is_refused, is_past}
use Rattle.list_pairs.specs.Answering.{IsCount, room_checks}
use Rattle.stored_reading.specs.Using.{boxes_short, as_read}
use Rattle.answers.specs.Deciding.{holds_or_not}
use Rattle.meaning.specs.Numbers.{upper, number_for, text_number, counts_left, Numbered}
use Rattle.c_numbers.specs.Small.{told_in, pairs_few, nothing_carried, small_after, counted_right, line_in, line_small}
use Rattle.meaning.specs.Numbers.{BoxedInto}
use Rattle.meaning.specs.declared.Refused.{Refused}

module _ (s : Scene) (b : List ℤ) (o : Outcome ℕ) where
  -- 12 carries nothing, nor does 17; the scene's own checks and those behind 17 are known
  boxed_small : (more : List Check) → (Accepted s → Answers more (IsCount s) o → told_in o < upper)
      → Answers (box_checks s b ++ (stale_checks s b ++ more)) (IsCount s) o
      → told_in o < upper
  boxed_small more then p =
      holds_or_not _
      (λ h. nothing_carried s (is_refused (IsCount s) _ (scene_checks s ++ (stale_checks s b ++ more)) o h p))
      (λ h.
      small_after s (stale_checks s b ++ more) o
      (λ a q.
      holds_or_not _
      (λ t. nothing_carried s (is_refused (IsCount s) _ more o t q))
      (λ t. then a (is_past (IsCount s) _ more o t q)))
      (is_past (IsCount s) _ (scene_checks s ++ (stale_checks s b ++ more)) o h p))

  counted_in : Answers (box_checks s b ++ stale_checks s b) (IsCount s) o → told_in o < upper
  counted_in p = boxed_small [] (λ a q. counted_right s o a q) p

  listed_in : (room : ℕ) → Answers (box_checks s b ++ stored_checks s b room) (IsCount s) o → told_in o < upper
  unfolding told_in
  listed_in room p =
      boxed_small (room_checks s room)
      (λ a q.
      holds_or_not _
      (λ h. let e = is_refused (IsCount s) _ [] o h q in rw e (pairs_few a))
      (λ h. counted_right s o a (is_past (IsCount s) _ [] o h q)))
      p

pub stored_count_small : (s : Scene) (b : List ℤ) (r : Result ℕ Refused) → CountedStored s b r → told_in (outcome_of r) < upper
stored_count_small s b r p = counted_in s b (outcome_of r) p

pub stored_list_small : {s : Scene} {b : List ℤ} {o o' : List ℕ} {r : Result ℕ Refused} → ListedStored s b o o' r → told_in (outcome_of r) < upper
stored_list_small {s} {b} {o} {o'} {r} p = listed_in s b (outcome_of r) (room_of o) p.answer

pub stored_words_small : {s : Scene} {b : List ℤ} {o o' w w' : List ℕ} {r : Result ℕ Refused} → SettledStored s b o o' w w' r → told_in (outcome_of r) < upper
stored_words_small {s} {b} {o} {o'} {w} {w'} {r} p = listed_in s b (outcome_of r) (min (room_of o) (length w)) p.answer

-- ---- a text read with its boxes

module _ {text : List ℕ} {lent left : Scene} {b b' : List ℤ} {a : Result SceneCounts Refused} (p : BoxedRead text lent left b b' a) where
  pub boxed_line_small : line_in (outcome_of a) < upper
  unfolding line_in
  boxed_line_small =
      holds_or_not (short_boxes b) (λ h. let e = boxes_short p h in rw e (omega arith)) (λ h. line_small (as_read p h))

  pub boxed_line : {x : Refused} → a ≡ Err x → x.carries < upper
  unfolding outcome_of line_in
  boxed_line e = rw e at boxed_line_small

  pub boxed_read : {c : SceneCounts} {l l' : List ℕ} → a ≡ Ok c → l' ≡ c.vertices ∷ c.edges ∷ c.triangles ∷ c.seams ∷ []
      → Numbered text_number (BoxedInto text lent left b b' l l') 0
  unfolding text_number outcome_of number_for counts_left
  boxed_read {c} e h =
      record { answer = Ok c; right = record { read = subst (BoxedRead text lent left b b') e p; counts = h }; is = refl }

  pub boxed_refused : {x : Refused} {r : ℕ} {l : List ℕ} → a ≡ Err x → r ≡ number_of x.why * upper + x.carries
      → Numbered text_number (BoxedInto text lent left b b' l l) r
  unfolding text_number outcome_of number_for counts_left
  boxed_refused {x} e h =
      record { answer = Err x; right = record { read = subst (BoxedRead text lent left b b') e p; counts = refl }; is = h }
