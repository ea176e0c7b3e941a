-- What is read stands behind what was read before it, and is what the reader lost.
use Rattle.std.proofs.Common.{◌≡◌, ℕ, ◌+◌, ◌-◌, ◌≤◌, List, ◌++◌, rules, arith, length, take, slice_range, sym, ap, ◌∙◌, subst, le_refl, drop_at, length-take-le}
use Rattle.std.proofs.lemmas.Slice.{take-put_mid_below}
use Rattle.std.specs.Io.KnownBytes.{Consumes, Keeps}
use Rattle.std.specs.declared.option.Option.{Option}
use Rattle.std.proofs.KnownBytes.{Consumes-trans, Consumes-kept}
use borrow.Rule.Slice.PartMut.{put_mid, post_of}
use lib.Seq.{take-add, take-append-le}
use Rattle.streams.proofs.read_text.Goals.{in-Ok, in-Err+else-ne}
use Rattle.streams.proofs.read_text.Goals as goal

take_split : (a b : ℕ) (old new : List ℕ) → a ≤ b → take a new ≡ take a old → take a old ++ slice_range new a b ≡ take b new
take_split a b old new h front =
    let same : a + (b - a) ≡ b = omega arith in
    ap (λ l. l ++ slice_range new a b) (sym front) ∙ sym (take-add a (b - a) new) ∙ ap (λ n. take n new) same

slice_range-put_mid : (a k n : ℕ) (xs ys : List ℕ) → a ≤ length xs → n ≤ length ys → slice_range (put_mid a k xs ys) a (a + n) ≡ take n ys
slice_range-put_mid a k n xs ys within fits =
    let same : (a + n) - a ≡ n = omega arith in
    let after = post_of a k xs in
    ap (take ((a + n) - a)) (drop_at (take a xs) (ys ++ after) a (length-take-le a xs within)) ∙ ap (λ m. take m (ys ++ after)) same ∙ take-append-le n ys after fits

read_more : (from room n count : ℕ) (old part : List ℕ) (a b c : Option (List ℕ)) → count ≡ from + n → from ≤ length old → n ≤ length part
    → Consumes a b (take from old) → Consumes b c (take n part) → Consumes a c (take count (put_mid from room old part))
read_more from room n count old part a b c is within fits before read =
    let piece = slice_range-put_mid from room n old part within fits in
    let joined = take_split from (from + n) old (put_mid from room old part) (omega arith) (take-put_mid_below _ _ _ _ _ (le_refl _) within) in
    let counted = ap (λ k. take k (put_mid from room old part)) (sym is) in
    subst (Consumes a c) (ap (λ l. take from old ++ l) (sym piece) ∙ joined ∙ counted) (Consumes-trans a b c _ _ before read)

read_none : (from room count : ℕ) (old part : List ℕ) (a b c : Option (List ℕ)) → count ≡ from → from ≤ length old
    → Consumes a b (take from old) → Keeps b c → Consumes a c (take count (put_mid from room old part))
read_none from room count old part a b c is within before kept =
    let same = sym (take-put_mid_below _ _ _ _ _ (le_refl _) within) ∙ ap (λ k. take k (put_mid from room old part)) (sym is) in
    subst (Consumes a c) same (Consumes-kept a b c _ before kept)

pub loop-preserved : goal.loop-preserved
loop-preserved g c = elim c.match-read.branch [
  | in-Ok w ↦ (search rules, search rules, read_more _ _ _ _ _ _ _ _ _ w.count-is c.loop.invariant.1 w.in-Ok.ensures.bound.0 c.loop.invariant.2 w.in-Ok.ensures.bytes.0)
  | in-Err+else-ne w ↦ (search rules, search rules, read_none _ _ _ _ _ _ _ _ w.count-is c.loop.invariant.1 c.loop.invariant.2 w.in-Err.ensures.bytes)
]
