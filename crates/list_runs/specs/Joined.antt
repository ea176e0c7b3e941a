-- The joint box of parts one behind the other: a box that misses it misses each of them.
use Rattle.std.specs.Prelude.{ℕ, zero, suc, ◌+◌, ◌≤◌, ◌<◌, Bool, true, false, ◌&&◌, ◌⊎◌, ◌≡◌, refl, ℤ, ◌<ℤ◌}
use Rattle.std.proofs.Math.Bool.{and-false}
use Rattle.std.proofs.Common.{true≢false, inl, inr, ⊎_elim, sym, ap, ◌∙◌, arith}
use Rattle.std.specs.Int.Signed.{le_z, clash_ℤ}
use Rattle.whole.specs.Order.{ord}
use Rattle.sequences.specs.Range.{le_or_lt}
use Rattle.meaning.specs.Boxes.{Span, Axis, joint, meet}
use Rattle.meaning.specs.Runs.{joint_span}
use Rattle.theory.specs.Spans.{Compared, ordered, reversed, compared, around, Apart, not_meeting}
use Rattle.meaning.specs.StoredBoxes.{Box, box_of}
use Rattle.list_boxes.specs.Kept.{joint_box, meet_boxes}

-- ---- two spans

not_at_most : (a b : ℤ) → b <ℤ a → le_z a b ≡ false
not_at_most a b h = go (le_z a b) (compared a b)
  where
    go : (c : Bool) → Compared a b c → c ≡ false
    go true (ordered k) = clash_ℤ h k
    go false (reversed k) = refl

apart_misses : (p q : Span) → Apart p q → meet p q ≡ false
apart_misses p q (inl h) = rw (not_at_most q.low p.high h) (and-false (le_z p.low q.high))
apart_misses p q (inr h) = rw (not_at_most p.low q.high h) refl

-- what misses a joint span misses both
misses_left : (p q r : Span) → meet p (joint q r) ≡ false → meet p q ≡ false
misses_left p q r h = apart_misses p q (go (not_meeting p (joint q r) h))
  where
    go : Apart p (joint q r) → Apart p q
    go (inl k) = inl (omega (arith, ord, (around q.low r.low).low_left))
    go (inr k) = inr (omega (arith, ord, (around q.high r.high).high_left))

misses_right : (p q r : Span) → meet p (joint q r) ≡ false → meet p r ≡ false
misses_right p q r h = apart_misses p r (go (not_meeting p (joint q r) h))
  where
    go : Apart p (joint q r) → Apart p r
    go (inl k) = inl (omega (arith, ord, (around q.low r.low).low_right))
    go (inr k) = inr (omega (arith, ord, (around q.high r.high).high_right))

-- ---- two boxes

second_fails : (a c : Bool) → a && false && c ≡ false
second_fails true c = refl
second_fails false c = refl

third_fails : (a b : Bool) → a && b && false ≡ false
third_fails true true = refl
third_fails true false = refl
third_fails false b = refl

three_tests : (a b c a' b' c' : Bool) → (a ≡ false → a' ≡ false) → (b ≡ false → b' ≡ false) → (c ≡ false → c' ≡ false)
    → a && b && c ≡ false → a' && b' && c' ≡ false
three_tests false b c a' b' c' f g h e = rw (f refl)
three_tests true false c a' b' c' f g h e = rw (g refl) (second_fails a' c')
three_tests true true false a' b' c' f g h e = rw (h refl) (third_fails a' b')
three_tests true true true a' b' c' f g h e = absurd (true≢false e)

box_misses_left : (b c d : Box) → meet_boxes b (joint_box c d) ≡ false → meet_boxes b c ≡ false
box_misses_left b c d =
    three_tests _ _ _ _ _ _ (misses_left b.x c.x d.x) (misses_left b.y c.y d.y) (misses_left b.z c.z d.z)

box_misses_right : (b c d : Box) → meet_boxes b (joint_box c d) ≡ false → meet_boxes b d ≡ false
box_misses_right b c d =
    three_tests _ _ _ _ _ _ (misses_right b.x c.x d.x) (misses_right b.y c.y d.y) (misses_right b.z c.z d.z)

-- ---- parts one behind the other

-- the joint box of the part in place i and of the k parts behind it
unfoldable pub joint_boxes : (ℕ → Box) → ℕ → ℕ → Box
joint_boxes f i zero = f i
joint_boxes f i (suc k) = joint_box (joint_boxes f i k) (f (i + 1 + k))

-- axis by axis it is the joint span
pub joint_spans : (f : Axis → ℕ → Span) (i k : ℕ) → joint_boxes (λ j. box_of (λ a. f a j)) i k ≡ box_of (λ a. joint_span (f a) i k)
unfolding joint_boxes joint_span
joint_spans f i zero = refl
joint_spans f i (suc k) = ap (λ (b : Box). joint_box b (box_of (λ a. f a (i + 1 + k)))) (joint_spans f i k)

-- a box that misses it misses each of the parts
pub run_misses : (b : Box) (f : ℕ → Box) (i k : ℕ) → meet_boxes b (joint_boxes f i k) ≡ false
    → (j : ℕ) → i ≤ j → j < i + 1 + k → meet_boxes b (f j) ≡ false
unfolding joint_boxes
run_misses b f i zero e j h l =
    let here : j ≡ i = omega arith in
    rw here e
run_misses b f i (suc k) e j h l =
    ⊎_elim
    (λ past. let here : j ≡ i + 1 + k = omega arith in rw here (box_misses_right b (joint_boxes f i k) (f (i + 1 + k)) e))
    (λ before. run_misses b f i k (box_misses_left b (joint_boxes f i k) (f (i + 1 + k)) e) j h before)
    (le_or_lt (i + 1 + k) j)

-- the same parts have the same joint box
pub joint_same : (f g : ℕ → Box) (i k : ℕ) → ((j : ℕ) → i ≤ j → j < i + 1 + k → f j ≡ g j) → joint_boxes f i k ≡ joint_boxes g i k
unfolding joint_boxes
joint_same f g i zero e = e i (omega arith) (omega arith)
joint_same f g i (suc k) e =
    let front = joint_same f g i k (λ j h l. e j h (omega arith)) in
    let last = e (i + 1 + k) (omega arith) (omega arith) in
    λ t. joint_box (front t) (last t)

-- parts that are named from another place on
pub joint_moved : (f : ℕ → Box) (n i k : ℕ) → joint_boxes f (n + i) k ≡ joint_boxes (λ j. f (n + j)) i k
unfolding joint_boxes
joint_moved f n i zero = refl
joint_moved f n i (suc k) =
    let place : n + i + 1 + k ≡ n + (i + 1 + k) = omega arith in
    let front = joint_moved f n i k in
    λ t. joint_box (front t) (f (place t))
