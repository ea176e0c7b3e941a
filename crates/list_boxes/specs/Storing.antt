-- What it is to store a box: it stands there, and every other number of the list is as it was.
use Rattle.std.specs.Prelude.{ℕ, ◌+◌, ◌*◌, ◌≤◌, ◌<◌, Bool, true, false, cond, List, ◌≢◌, ◌≡◌, refl, ℤ, pos, length, get_or, set}
use Rattle.std.proofs.Common.{⊎_elim, ◌∙◌, arith, length-set, get_or-set_same, get_or-set_other}
use Rattle.std.specs.Int.Signed.{le_z}
use Rattle.sequences.specs.Range.{le_or_lt}
use Rattle.meaning.specs.Boxes.{Span, joint}
use Rattle.meaning.specs.StoredBoxes.{Box, span_at, box_at}
use Rattle.list_boxes.specs.Kept.{joint_box}

-- a list with a span stored at a place
abbrev pub with_span : List ℤ → ℕ → Span → List ℤ
with_span l i p = set (set l i p.low) (i + 3) p.high

pub record BoxStored (l : List ℤ) (k : ℕ) (b : Box) (l' : List ℤ) : Type 0 where
  pub here : box_at l' k ≡ b
  pub front : (n : ℕ) → n < 6 * k → get_or l' n (pos 0) ≡ get_or l n (pos 0)
  pub behind : (n : ℕ) → 6 * k + 6 ≤ n → get_or l' n (pos 0) ≡ get_or l n (pos 0)
  pub same : length l' ≡ length l

-- two spans have no place in common
pub record Apart (i j : ℕ) : Type 0 where
  pub lows : j ≢ i
  pub above : j ≢ i + 3
  pub below : j + 3 ≢ i

module _ (l : List ℤ) (i : ℕ) (p : Span) where
  span_here : i + 3 < length l → span_at (with_span l i p) i ≡ p
  span_here h =
      let low : get_or (with_span l i p) i (pos 0) ≡ p.low =
      get_or-set_other (set l i p.low) (i + 3) i p.high (pos 0) (omega arith) ∙ get_or-set_same l i p.low (pos 0) (omega arith) in
      let high : get_or (with_span l i p) (i + 3) (pos 0) ≡ p.high =
      get_or-set_same (set l i p.low) (i + 3) p.high (pos 0) (rw length-set h) in
      λ k. record { low = low k; high = high k }

  place_kept : (j : ℕ) → j ≢ i → j ≢ i + 3 → get_or (with_span l i p) j (pos 0) ≡ get_or l j (pos 0)
  place_kept j a b = get_or-set_other (set l i p.low) (i + 3) j p.high (pos 0) b ∙ get_or-set_other l i j p.low (pos 0) a

  pub span_kept : (j : ℕ) → Apart i j → span_at (with_span l i p) j ≡ span_at l j
  span_kept j a =
      let low = place_kept j a.lows a.above in
      let high = place_kept (j + 3) a.below (omega (arith, a.lows)) in
      λ k. record { low = low k; high = high k }

-- a box is stored span by span
abbrev pub with_box : List ℤ → ℕ → Box → List ℤ
with_box l k b = with_span (with_span (with_span l (6 * k) b.x) (6 * k + 1) b.y) (6 * k + 2) b.z

module _ (l : List ℤ) (k : ℕ) (b : Box) where
  -- a number that is none of the six
  number_kept : (n : ℕ) → n ≢ 6 * k → n ≢ 6 * k + 1 → n ≢ 6 * k + 2 → n ≢ 6 * k + 3 → n ≢ 6 * k + 1 + 3 → n ≢ 6 * k + 2 + 3
      → get_or (with_box l k b) n (pos 0) ≡ get_or l n (pos 0)
  number_kept n x y z u v w =
      place_kept (with_span (with_span l (6 * k) b.x) (6 * k + 1) b.y) (6 * k + 2) b.z n z w
      ∙ place_kept (with_span l (6 * k) b.x) (6 * k + 1) b.y n y v
      ∙ place_kept l (6 * k) b.x n x u

  box_here : 6 * k + 5 < length l → box_at (with_box l k b) k ≡ b
  box_here h =
      let first = with_span l (6 * k) b.x in
      let second = with_span first (6 * k + 1) b.y in
      let x : span_at (with_box l k b) (6 * k) ≡ b.x =
      span_kept second (6 * k + 2) b.z (6 * k) (omega arith)
      ∙ span_kept first (6 * k + 1) b.y (6 * k) (omega arith)
      ∙ span_here l (6 * k) b.x (omega arith) in
      let y : span_at (with_box l k b) (6 * k + 1) ≡ b.y =
      span_kept second (6 * k + 2) b.z (6 * k + 1) (omega arith)
      ∙ span_here first (6 * k + 1) b.y (simp length-set (omega arith)) in
      let z : span_at (with_box l k b) (6 * k + 2) ≡ b.z = span_here second (6 * k + 2) b.z (simp length-set (omega arith)) in
      λ t. record { x = x t; y = y t; z = z t }

  pub box_stored : 6 * k + 5 < length l → BoxStored l k b (with_box l k b)
  box_stored h =
      record {
        here = box_here h;
        front = λ n p. number_kept n (omega arith) (omega arith) (omega arith) (omega arith) (omega arith) (omega arith);
        behind = λ n p. number_kept n (omega arith) (omega arith) (omega arith) (omega arith) (omega arith) (omega arith);
        same = simp length-set;
      }

-- boxes whose six numbers are the same are the same
pub same_box : (l l' : List ℤ) (i : ℕ) → ((n : ℕ) → 6 * i ≤ n → n < 6 * i + 6 → get_or l' n (pos 0) ≡ get_or l n (pos 0)) → box_at l' i ≡ box_at l i
same_box l l' i e =
    let xl = e (6 * i) (omega arith) (omega arith) in
    let yl = e (6 * i + 1) (omega arith) (omega arith) in
    let zl = e (6 * i + 2) (omega arith) (omega arith) in
    let xh = e (6 * i + 3) (omega arith) (omega arith) in
    let yh = e (6 * i + 1 + 3) (omega arith) (omega arith) in
    let zh = e (6 * i + 2 + 3) (omega arith) (omega arith) in
    λ t.
    record {
      x = record { low = xl t; high = xh t };
      y = record { low = yl t; high = yh t };
      z = record { low = zl t; high = zh t };
    }

-- every other box is as it was
pub others_kept : {l l' : List ℤ} {k : ℕ} {b : Box} → BoxStored l k b l' → (i : ℕ) → i ≢ k → box_at l' i ≡ box_at l i
others_kept {l} {l'} {k} so i h =
    ⊎_elim
    (λ le. same_box l l' i (λ n p q. so.behind n (omega arith)))
    (λ lt. same_box l l' i (λ n p q. so.front n (omega arith)))
    (le_or_lt k i)

-- ---- a box joined with itself

either_way : (c : Bool) (a : ℤ) → cond c a a ≡ a
either_way true a = refl
either_way false a = refl

joint_itself : (p : Span) → joint p p ≡ p
joint_itself p =
    let low = either_way (le_z p.low p.low) p.low in
    let high = either_way (le_z p.high p.high) p.high in
    λ t. record { low = low t; high = high t }

pub box_itself : (b : Box) → joint_box b b ≡ b
box_itself b = λ t. record { x = joint_itself b.x t; y = joint_itself b.y t; z = joint_itself b.z t }
