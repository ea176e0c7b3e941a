-- Document 02, §7 after §8: a vertex is moved, the scene saved, and the text read again, with boxes or without: the scene that is read is the
-- scene after the move, seams included, and its boxes are the ones worked out.
use Rattle.std.specs.Prelude.{ℕ, ◌≤◌, false, List, ◌≡◌, refl, ℤ, length, take, Ok, Result}
use Rattle.std.proofs.Common.{subst}
use Rattle.sequences.specs.Wrote.{written}
use Rattle.meaning.specs.Limits.{text_limit}
use Rattle.meaning.specs.Scene.{Scene}
use Rattle.meaning.specs.Refusals.{given, outcome_of}
use Rattle.meaning.specs.Text.{short_buffer, counts_of, filled, TextRead}
use Rattle.meaning.specs.StoredBoxes.{short_boxes, Filled, BoxedRead}
use Rattle.meaning.specs.Dragging.{moved_scene, VertexMoved}
use Rattle.meaning.specs.Saved.{saved_text, Measured, Saved}
use Rattle.scene_checks.specs.Accepting.{accepted_checked}
use Rattle.text_scene.specs.Using.{front_of}
use Rattle.stored_reading.specs.Using.{as_read, read_right}
use Rattle.saved_scene.specs.Answering.{measured_given, saved_given}
use Rattle.text_scene.specs.OneReading.{same_scene}
use Rattle.saved_scene.specs.OneSave.{one_saved}
use Rattle.saved_demands.specs.Saving.{saved_holds, saved_read}
use Rattle.stored_demands.specs.AfterReading.{counts_read}
use Rattle.stored_demands.specs.AfterMoves.{left_by, buffers_after_move, move_accepted}
use Rattle.meaning.specs.declared.Refused.{Refused}
use Rattle.meaning.specs.declared.SceneCounts.{SceneCounts}

-- ---- a text that was saved, read with its boxes

pub saved_read_boxed : {s : Scene} {o o' : List ℕ} {n : ℕ} → Saved s o o' (Ok n) → {lent left : Scene} {b b' : List ℤ} {r : Result SceneCounts Refused}
    → short_buffer lent ≡ false → short_boxes b ≡ false → BoxedRead (take n o') lent left b b' r
    → (outcome_of r ≡ given (counts_of s)) × (left ≡ filled (given s) lent) × Filled s b b'
saved_read_boxed {s} {o} {o'} {n} p {lent} {left} {b} {b'} {r} wide long q =
    let (counts, buffers) = saved_read p wide (as_read q long) in
    let so = read_right (subst (BoxedRead (take n o') lent left b b') (counts_read r (counts_of s) counts) q) in
    let same : front_of (counts_of s) left ≡ s = same_scene so.holds (saved_holds p) in
    (counts, buffers, subst (λ (t : Scene). Filled t b b') same so.filled)

-- ---- after a move

module _ {s : Scene} {v : ℕ} {c p' b b' : List ℤ} (m : VertexMoved s v c p' b b' (Ok tt)) where
  -- the scene in the buffers is saved
  module _ {o o' : List ℕ} {n : ℕ} (saved : Saved (left_by s p') o o' (Ok n)) where
    as_moved : Saved (moved_scene s v c) o o' (Ok n)
    as_moved = subst (λ (t : Scene). Saved t o o' (Ok n)) (buffers_after_move s v c p' b b' m) saved

    -- and read again
    pub move_save_read : {lent left : Scene} {r : Result SceneCounts Refused} → short_buffer lent ≡ false → TextRead (take n o') lent left r
        → (outcome_of r ≡ given (counts_of (moved_scene s v c))) × (left ≡ filled (given (moved_scene s v c)) lent)
    move_save_read wide a = saved_read as_moved wide a

    -- with its boxes
    pub move_save_read_boxed : {lent left : Scene} {d d' : List ℤ} {r : Result SceneCounts Refused} → short_buffer lent ≡ false → short_boxes d ≡ false
        → BoxedRead (take n o') lent left d d' r
        → (outcome_of r ≡ given (counts_of (moved_scene s v c))) × (left ≡ filled (given (moved_scene s v c)) lent) × Filled (moved_scene s v c) d d'
    move_save_read_boxed wide long q = saved_read_boxed as_moved wide long q

  -- and a scene after a move is saved wherever its text is no longer than a text may be and there is room: no check of the scene refuses it
  pub move_saves : {o o' : List ℕ} {r : Result ℕ Refused} → length (saved_text (left_by s p')) ≤ text_limit
      → length (saved_text (left_by s p')) ≤ length o → Saved (left_by s p') o o' r
      → (r ≡ Ok (length (saved_text (left_by s p')))) × (o' ≡ written (saved_text (left_by s p')) o)
  move_saves {o} {o'} {r} brief fits p =
      let t : Scene = left_by s p' in
      let measured : Measured t (Ok (length (saved_text t))) =
      measured_given t {checked = Ok tt} (accepted_checked t (move_accepted s v c p' b b' m)) refl refl brief in
      one_saved p (saved_given t measured refl o fits refl)
