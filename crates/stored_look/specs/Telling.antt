-- Numbers, spans and boxes between which no difference is found are the same.
use Rattle.std.specs.Prelude.{Bool, true, false, not, ◌&&◌, ◌||◌, ◌≡◌, refl, T, ℤ, ◌≤ℤ◌, ◌<ℤ◌}
use Rattle.std.proofs.Common.{sym, ◌∙◌, arith}
use Rattle.std.specs.Int.Signed.{le_z, lt_z, clash_ℤ}
use Rattle.whole.specs.Order.{ord}
use Rattle.meaning.specs.Scene.{differ}
use Rattle.meaning.specs.Boxes.{Span}
use Rattle.meaning.specs.StoredBoxes.{Box, other_span, other_box}
use Rattle.sequences.specs.Pick.{neither}
use Rattle.theory.specs.Spans.{Compared, ordered, reversed, compared}

-- two numbers differ unless each is at most the other
not_less : (y z : ℤ) → lt_z y z ≡ not (le_z z y)
not_less y z = go (le_z z y) (compared z y)
  where
    passed : (a b : ℤ) → a <ℤ b → lt_z a b ≡ true
    passed a b h = is_true (lt_z a b) h.lt
      where
        is_true : (c : Bool) → T c → c ≡ true
        is_true true t = refl
        is_true false t = absurd t

    failed : (a b : ℤ) → b ≤ℤ a → lt_z a b ≡ false
    failed a b h = by (lt_z a b) refl
      where
        by : (c : Bool) → lt_z a b ≡ c → c ≡ false
        by true e = clash_ℤ (record { lt = rw e tt }) h
        by false e = refl

    go : (c : Bool) → Compared z y c → lt_z y z ≡ not c
    go true (ordered h) = failed y z h
    go false (reversed h) = passed y z h

unless_both : (p q : Bool) → not p || not q ≡ not (p && q)
unless_both true q = refl
unless_both false q = refl

differ_is : (k m : ℤ) → differ k m ≡ not (le_z m k && le_z k m)
differ_is k m = rw (not_less k m, not_less m k) (unless_both (le_z m k) (le_z k m))

same_number : (y z : ℤ) → differ y z ≡ false → y ≡ z
same_number y z e = both_ways (not_not (le_z z y && le_z y z) (sym (differ_is y z) ∙ e))
  where
    not_not : (b : Bool) → not b ≡ false → b ≡ true
    not_not true e = refl
    not_not false e = cc

    both_ways : le_z z y && le_z y z ≡ true → y ≡ z
    both_ways t = go (le_z z y) (le_z y z) t (compared z y) (compared y z)
      where
        go : (c d : Bool) → c && d ≡ true → Compared z y c → Compared y z d → y ≡ z
        go true true t (ordered h) (ordered k) = omega (arith, ord)
        go true false t h k = cc
        go false d t h k = cc

pub same_span : (p q : Span) → other_span p q ≡ false → p ≡ q
same_span p q e =
    let (low, high) = neither (differ p.low q.low) (differ p.high q.high) e in
    let l = same_number p.low q.low low in
    let h = same_number p.high q.high high in
    λ t. record { low = l t; high = h t }

pub same_box : (p q : Box) → other_box p q ≡ false → p ≡ q
same_box p q e =
    let (xy, z) = neither (other_span p.x q.x || other_span p.y q.y) (other_span p.z q.z) e in
    let (x, y) = neither (other_span p.x q.x) (other_span p.y q.y) xy in
    let one = same_span p.x q.x x in
    let two = same_span p.y q.y y in
    let three = same_span p.z q.z z in
    λ t. record { x = one t; y = two t; z = three t }
