-- Far, said of boxes at the start and at the end. Who is far from boxes is far from whatever lies in them, and so is whatever lies in his.
use Rattle.std.specs.Prelude.{ℕ, Bool, true, false, ◌&&◌, ◌||◌, ◌≡◌, refl, T, ◌≤ℤ◌, ◌<ℤ◌}
use Rattle.std.proofs.lemmas.Bool.{false≢true}
use Rattle.std.proofs.Common.{arith}
use Rattle.std.specs.Int.Signed.{lt_z_yes}
use Rattle.whole.specs.Order.{ord}
use Rattle.sequences.specs.Pick.{or_true}
use Rattle.meaning.specs.Scene.{Scene}
use Rattle.meaning.specs.Boxes.{Span, joint}
use Rattle.meaning.specs.StoredBoxes.{Box, box_of}
use Rattle.meaning.specs.Near.{first_span_at, second_span_at, under, far}
use Rattle.meaning.specs.declared.Frame.{Frame}
use Rattle.meaning.specs.declared.Frame.TheVariants.{Start, End}
use Rattle.meaning.specs.declared.Kind.{Kind}
use Rattle.theory.specs.Spans.{around, smaller_greatest, larger_least}
use Rattle.list_boxes.specs.Kept.{joint_box}
use Rattle.near_laws.specs.Near.{Lies}

-- on one axis: spans at the start and at the end, and others
abbrev pub far_spans : Span → Span → Span → Span → Bool
far_spans p p' q q' = (under p q && under p' q') || (under q p && under q' p')

abbrev pub far_boxes : Box → Box → Box → Box → Bool
far_boxes b b' c c' =
    far_spans b.x b'.x c.x c'.x || far_spans b.y b'.y c.y c'.y || far_spans b.z b'.z c.z c'.z

-- the boxes of a pair's parts at one time
abbrev pub first_box_at : Frame → Scene → Kind → ℕ → Box
first_box_at f s kind i = box_of (λ a. first_span_at f s kind a i)

abbrev pub second_box_at : Frame → Scene → Kind → ℕ → Box
second_box_at f s kind j = box_of (λ a. second_span_at f s kind a j)

-- a pair is far exactly when its boxes are
pub far_boxes_lem : (s : Scene) (kind : Kind) (i j : ℕ)
    → far s kind i j ≡ far_boxes (first_box_at Start s kind i) (first_box_at End s kind i) (second_box_at Start s kind j) (second_box_at End s kind j)
far_boxes_lem s kind i j = refl

-- ---- what lies in a box

pub record Inside (b c : Box) : Type 0 where
  pub on_x : Lies b.x c.x
  pub on_y : Lies b.y c.y
  pub on_z : Lies b.z c.z

lies_itself : (p : Span) → Lies p p
lies_itself p = record { low = omega (arith, ord); high = omega (arith, ord) }

lies_then : {p q r : Span} → Lies p q → Lies q r → Lies p r
lies_then h k = record { low = omega (arith, ord, h.low, k.low); high = omega (arith, ord, h.high, k.high) }

lies_left : (p q : Span) → Lies p (joint p q)
lies_left p q = record { low = (around p.low q.low).low_left; high = (around p.high q.high).high_left }

lies_right : (p q : Span) → Lies q (joint p q)
lies_right p q = record { low = (around p.low q.low).low_right; high = (around p.high q.high).high_right }

both_lie : {p q r : Span} → Lies p r → Lies q r → Lies (joint p q) r
both_lie {p} {q} h k =
    record { low = smaller_greatest _ p.low q.low h.low k.low; high = larger_least _ p.high q.high h.high k.high }

pub inside_itself : (b : Box) → Inside b b
inside_itself b = record { on_x = lies_itself b.x; on_y = lies_itself b.y; on_z = lies_itself b.z }

pub inside_then : {b c d : Box} → Inside b c → Inside c d → Inside b d
inside_then h k = record { on_x = lies_then h.on_x k.on_x; on_y = lies_then h.on_y k.on_y; on_z = lies_then h.on_z k.on_z }

pub inside_left : (b c : Box) → Inside b (joint_box b c)
inside_left b c = record { on_x = lies_left b.x c.x; on_y = lies_left b.y c.y; on_z = lies_left b.z c.z }

pub inside_right : (b c : Box) → Inside c (joint_box b c)
inside_right b c = record { on_x = lies_right b.x c.x; on_y = lies_right b.y c.y; on_z = lies_right b.z c.z }

pub both_inside : {b c d : Box} → Inside b d → Inside c d → Inside (joint_box b c) d
both_inside h k = record { on_x = both_lie h.on_x k.on_x; on_y = both_lie h.on_y k.on_y; on_z = both_lie h.on_z k.on_z }

-- ---- far from boxes, far from what lies in them

said : (b : Bool) → b ≡ true → T b
said true e = tt
said false e = absurd (false≢true e)

so_said : (b : Bool) → T b → b ≡ true
so_said true t = refl
so_said false t = absurd t

under_kept : {p p₁ q q₁ : Span} → Lies p₁ p → Lies q₁ q → under p q ≡ true → under p₁ q₁ ≡ true
under_kept {p} {p₁} {q} {q₁} h k e =
    let below : p.high <ℤ q.low = lt_z_yes (said (under p q) e) in
    let there : p₁.high <ℤ q₁.low = omega (arith, ord, h.high, k.low) in
    so_said (under p₁ q₁) there.lt

two_ways : (a b c d a₁ b₁ c₁ d₁ : Bool) → (a ≡ true → a₁ ≡ true) → (b ≡ true → b₁ ≡ true) → (c ≡ true → c₁ ≡ true) → (d ≡ true → d₁ ≡ true)
    → (a && b) || (c && d) ≡ true → (a₁ && b₁) || (c₁ && d₁) ≡ true
two_ways true true c d a₁ b₁ c₁ d₁ f g h k e = rw (f refl, g refl)
two_ways true false true true a₁ b₁ c₁ d₁ f g h k e = or_true (a₁ && b₁) (c₁ && d₁) (rw (h refl, k refl))
two_ways true false true false a₁ b₁ c₁ d₁ f g h k e = absurd (false≢true e)
two_ways true false false d a₁ b₁ c₁ d₁ f g h k e = absurd (false≢true e)
two_ways false b true true a₁ b₁ c₁ d₁ f g h k e = or_true (a₁ && b₁) (c₁ && d₁) (rw (h refl, k refl))
two_ways false b true false a₁ b₁ c₁ d₁ f g h k e = absurd (false≢true e)
two_ways false b false d a₁ b₁ c₁ d₁ f g h k e = absurd (false≢true e)

spans_kept : {p p' q q' p₁ p₂ q₁ q₂ : Span} → Lies p₁ p → Lies p₂ p' → Lies q₁ q → Lies q₂ q'
    → far_spans p p' q q' ≡ true → far_spans p₁ p₂ q₁ q₂ ≡ true
spans_kept h h' k k' =
    two_ways _ _ _ _ _ _ _ _ (under_kept h k) (under_kept h' k') (under_kept k h) (under_kept k' h')

one_axis : (a b c a₁ b₁ c₁ : Bool) → (a ≡ true → a₁ ≡ true) → (b ≡ true → b₁ ≡ true) → (c ≡ true → c₁ ≡ true)
    → a || b || c ≡ true → a₁ || b₁ || c₁ ≡ true
one_axis true b c a₁ b₁ c₁ f g h e = rw (f refl)
one_axis false true c a₁ b₁ c₁ f g h e = let k : a₁ || b₁ ≡ true = or_true a₁ b₁ (g refl) in rw k
one_axis false false true a₁ b₁ c₁ f g h e = or_true (a₁ || b₁) c₁ (h refl)
one_axis false false false a₁ b₁ c₁ f g h e = absurd (false≢true e)

pub far_inside : {b b' c c' b₁ b₂ c₁ c₂ : Box} → Inside b₁ b → Inside b₂ b' → Inside c₁ c → Inside c₂ c'
    → far_boxes b b' c c' ≡ true → far_boxes b₁ b₂ c₁ c₂ ≡ true
far_inside h h' k k' =
    one_axis _ _ _ _ _ _
    (spans_kept h.on_x h'.on_x k.on_x k'.on_x)
    (spans_kept h.on_y h'.on_y k.on_y k'.on_y)
    (spans_kept h.on_z h'.on_z k.on_z k'.on_z)
