-- What whoever reads a text with its boxes has of the answer: it is that of the reader where the box buffer is long enough; after success each
-- stored box of the scene in front is the one worked out; and only one answer meets the promise.
use Rattle.std.specs.Prelude.{ℕ, true, false, ◌||◌, List, ◌≡◌, refl, ℤ, Ok, Result}
use Rattle.std.proofs.Common.{⊎_elim, sym, subst, ◌∙◌, arith}
use Rattle.std.proofs.Math.Path.{ap}
use Rattle.sequences.specs.Pick.{either}
use Rattle.meaning.specs.Scene.{Scene, Accepted}
use Rattle.meaning.specs.Refusals.{Outcome, given, refused, outcome_of}
use Rattle.meaning.specs.Text.{Holds, short_buffer, long_text, counts_told, filled, TextRead}
use Rattle.meaning.specs.StoredBoxes.{short_boxes, Filled, BoxedOutcome, FillsRead, BoxedRead}
use Rattle.meaning.specs.declared.SceneCounts.{SceneCounts}
use Rattle.list_boxes.specs.Once.{one_filling}
use Rattle.text_scene.specs.Unique.{text_unique}
use Rattle.text_scene.specs.Using.{front_of, holds_read, accepted_read}
use Rattle.stored_reading.specs.Reading.{outcome_front}
use Rattle.meaning.specs.declared.Refused.{Refused}
use Rattle.answers.specs.Speaking.{one_carrying}

-- ---- 12 for the boxes, or what the reader answers

module _ {text : List ℕ} {lent left : Scene} {b b' : List ℤ} {r : Result SceneCounts Refused} (p : BoxedRead text lent left b b' r) where
  pub boxes_short : short_boxes b ≡ true → outcome_of r ≡ refused 12 0
  unfolding counts_told
  boxes_short h = let e : p.outcome ≡ refused 12 0 = rw h at p.right in p.says ∙ ap counts_told e

  pub as_read : short_boxes b ≡ false → TextRead text lent left r
  as_read h = record { outcome = p.outcome; right = rw h at p.right; says = p.says; leaves = p.leaves }

-- ---- after success

pub record ReadRight (text : List ℕ) (s : Scene) (b b' : List ℤ) : Type 0 where
  pub holds : Holds text s
  pub accepted : Accepted s
  pub filled : Filled s b b'
  pub long : short_boxes b ≡ false

-- 'After reading each stored box equals the one worked out from the positions': the front of the buffers is the scene of the text, and the
-- box buffer has its boxes
pub read_right : {text : List ℕ} {lent left : Scene} {b b' : List ℤ} {c : SceneCounts} → BoxedRead text lent left b b' (Ok c)
    → ReadRight text (front_of c left) b b'
unfolding outcome_of FillsRead as_read
read_right {text} {lent} {left} {b} {b'} {c} p = ⊎_elim short long (either (short_boxes b))
  where
    short : short_boxes b ≡ true → ReadRight text (front_of c left) b b'
    short h =
        let e : ◌≡◌ {A = Outcome SceneCounts} (given c) (refused 12 0) = boxes_short p h in
        let z : ◌≡◌ {A = ℕ} 0 1 = cc in
        absurd (omega arith)

    long : short_boxes b ≡ false → ReadRight text (front_of c left) b b'
    long h =
        let a : TextRead text lent left (Ok c) = as_read p h in
        record {
          holds = holds_read a refl;
          accepted = accepted_read a refl;
          filled = subst (λ (o : Outcome Scene). FillsRead o b b') (outcome_front a) p.boxes;
          long = h;
        }

-- ---- one answer

one_outcome : (text : List ℕ) (lent : Scene) (b : List ℤ) (x y : Outcome Scene) → BoxedOutcome text lent b x → BoxedOutcome text lent b y → x ≡ y
one_outcome text lent b x y p q = ⊎_elim short long (either (short_boxes b || short_buffer lent))
  where
    short : short_boxes b || short_buffer lent ≡ true → x ≡ y
    short h = let e : x ≡ refused 12 0 = rw h at p in let f : y ≡ refused 12 0 = rw h at q in e ∙ sym f

    over : short_boxes b || short_buffer lent ≡ false → long_text text ≡ true → x ≡ y
    over h k = let e : x ≡ refused 8 0 = rw (h, k) at p in let f : y ≡ refused 8 0 = rw (h, k) at q in e ∙ sym f

    brief : short_boxes b || short_buffer lent ≡ false → long_text text ≡ false → x ≡ y
    brief h k = text_unique text x y (rw (h, k) at p) (rw (h, k) at q)

    long : short_boxes b || short_buffer lent ≡ false → x ≡ y
    long h = ⊎_elim (over h) (brief h) (either (long_text text))

fills_one : (o : Outcome Scene) (b b₁ b₂ : List ℤ) → FillsRead o b b₁ → FillsRead o b b₂ → b₁ ≡ b₂
unfolding FillsRead
fills_one (given s) b b₁ b₂ p q = one_filling s p q
fills_one (refused n line) b b₁ b₂ p q = p ∙ sym q

pub one_boxed_reading : (text : List ℕ) (lent left left' : Scene) (b b₁ b₂ : List ℤ) (r r' : Result SceneCounts Refused) → BoxedRead text lent left b b₁ r
    → BoxedRead text lent left' b b₂ r' → (r ≡ r') × (left ≡ left') × (b₁ ≡ b₂)
one_boxed_reading text lent left left' b b₁ b₂ r r' p q =
    let same : p.outcome ≡ q.outcome = one_outcome text lent b p.outcome q.outcome p.right q.right in (
      one_carrying r r' (p.says ∙ ap counts_told same ∙ sym q.says),
      p.leaves ∙ ap (λ (o : Outcome Scene). filled o lent) same ∙ sym q.leaves,
      fills_one q.outcome b b₁ b₂ (subst (λ (o : Outcome Scene). FillsRead o b b₁) same p.boxes) q.boxes,
    )
