-- 'After reading .. each stored box equals the one worked out from the positions': as read with its text, and as filled in for a scene in
-- slices. So moves may begin there, and the list from the boxes is the list of the scene.
use Rattle.std.specs.Prelude.{ℕ, List, [], ◌≡◌, refl, ℤ, Err, Ok, Result}
use Rattle.std.proofs.Common.{sym, ap, subst, ◌∙◌, arith}
use Rattle.meaning.specs.Scene.{Scene}
use Rattle.meaning.specs.Refusals.{Outcome, given, refused, outcome_alone, outcome_of}
use Rattle.meaning.specs.List.{Listing}
use Rattle.meaning.specs.Text.{Holds, counts_told, filled}
use Rattle.meaning.specs.StoredBoxes.{Filled, FillsAfter, BoxesFilled, ListedStored, FillsRead, BoxedRead}
use Rattle.meaning.specs.declared.SceneCounts.{SceneCounts}
use Rattle.answers.specs.Answering.{is_given}
use Rattle.scene_checks.specs.Accepting.{checked_accepted}
use Rattle.text_scene.specs.Using.{front_of}
use Rattle.stored_reading.specs.Using.{as_read, read_right}
use Rattle.demands.specs.Unchanged.{SceneInFront, reading_holds}
use Rattle.stored_demands.specs.Fresh.{stored_list}
use Rattle.stored_demands.specs.Chain.{Right, still_long}
use Rattle.meaning.specs.declared.Refused.{Refused}

-- filled in
pub filled_right : (s : Scene) (b b' : List ℤ) → BoxesFilled s b b' (Ok tt) → Right s b'
unfolding outcome_alone FillsAfter
filled_right s b b' p =
    let (long, q) = is_given (λ t. Unit {0}) _ _ tt p.answer in
    record { accepted = checked_accepted s q; boxed = p.buffer.boxed; long = still_long b b' p.buffer.kept.same long }

-- read: the scene in front of the buffers is the text's, it is accepted, and its boxes are the ones worked out
module _ {text : List ℕ} {lent left : Scene} {b b' : List ℤ} {c : SceneCounts} (p : BoxedRead text lent left b b' (Ok c)) where
  pub read_holds : Holds text (front_of c left)
  read_holds = (read_right p).holds

  pub boxes_after_reading : Right (front_of c left) b'
  boxes_after_reading =
      let so = read_right p in
      record { accepted = so.accepted; boxed = so.filled.boxed; long = still_long b b' so.filled.kept.same so.long }

  pub list_after_reading : (o o' : List ℕ) (r : Result ℕ Refused) → ListedStored (front_of c left) b' o o' r → Listing (front_of c left) o o' r
  list_after_reading o o' r q =
      let so = boxes_after_reading in
      stored_list (front_of c left) b' so.accepted so.long so.boxed o o' r q

-- ---- the lent buffers, after a refusal and after success

unchanged : {lent : Scene} {b b' : List ℤ} {n line : ℕ} (o : Outcome Scene) → counts_told o ≡ refused n line → FillsRead o b b'
    → (filled o lent ≡ lent) × (b' ≡ b)
unfolding counts_told filled FillsRead
unchanged (given s) e f = let z : ◌≡◌ {A = ℕ} 0 1 = cc in absurd (omega arith)
unchanged (refused m k) e f = (refl, f)

pub counts_read : (r : Result SceneCounts Refused) (k : SceneCounts) → outcome_of r ≡ given k → r ≡ Ok k
unfolding outcome_of
counts_read (Ok c) k e = ap Ok (cc)
counts_read (Err x) k e = let z : ◌≡◌ {A = ℕ} 0 1 = cc in absurd (omega arith)

module _ {text : List ℕ} {lent left : Scene} {b b' : List ℤ} {r : Result SceneCounts Refused} (p : BoxedRead text lent left b b' r) where
  pub boxed_unchanged : (n line : ℕ) → outcome_of r ≡ refused n line → (left ≡ lent) × (b' ≡ b)
  boxed_unchanged n line e = let (scene, boxes) = unchanged p.outcome (sym p.says ∙ e) p.boxes in (p.leaves ∙ scene, boxes)

  -- the scene of the text in front, its boxes in front, and behind them nothing changed
  pub boxed_holds : (c : SceneCounts) → outcome_of r ≡ given c → SceneInFront text lent left c × Filled (front_of c left) b b'
  boxed_holds c e =
      let so = read_right (subst (BoxedRead text lent left b b') (counts_read r c e) p) in
      (reading_holds text lent left r (as_read p so.long) c e, so.filled)
