-- A box is worked out in a list of one's own, and stored where its part has the vertex; every other box is kept.
use Rattle.std.specs.Prelude.{ℕ, ◌+◌, ◌*◌, ◌-◌, ◌/◌, ◌≤◌, ◌<◌, Bool, true, false, cond, not, ◌||◌, List, ◌≡◌, refl, eqb, ℤ, pos, length, get_or, take, drop}
use Rattle.std.proofs.Common.{true≢false, ⊎_elim, sym, ap, ◌∙◌, subst, not-suc-le-zero, arith, get_or-take, get_or-drop}
use Rattle.sequences.specs.Range.{le_or_lt}
use Rattle.meaning.specs.Scene.{Scene, edge_count, triangle_count}
use Rattle.meaning.specs.StoredBoxes.{Box, span_at, box_at, vertex_box, BoxesStand, KeptBehind, box_numbers}
use Rattle.meaning.specs.Dragging.{edge_has, triangle_has}
use Rattle.scene_seams.specs.Alone.{only_positions}
use Rattle.answers.specs.Below.{or_left, or_rest}
use Rattle.list_boxes.specs.Kept.{joint_box, between}
use Rattle.list_boxes.specs.Storing.{BoxStored, with_span, with_box, box_stored, others_kept, same_box, box_itself}
use Rattle.list_boxes.specs.Parts.{Drawn}

-- the box of one vertex, and the joint box so far
abbrev pub work_numbers : ℕ
work_numbers = 12

-- the second of one's own boxes is the wanted one
pub record WorkedOut (b : Box) (own : List ℤ) : Type 0 where
  pub here : box_at own 1 ≡ b
  pub same : length own ≡ work_numbers

pub record Workable (s : Scene) (own boxes : List ℤ) : Type 0 where
  pub drawn : Drawn s
  pub long : length own ≡ work_numbers
  pub room : box_numbers ≤ length boxes

-- ---- working one out

-- the box of a vertex, told by the positions from its own on
module _ (p : List ℤ) (v m : ℕ) (h : 6 ≤ m) where
  own_number : (k n : ℕ) → k < m → 6 * v + k ≡ n → get_or (take m (drop (6 * v) p)) k (pos 0) ≡ get_or p n (pos 0)
  own_number k n l e = get_or-take m (drop (6 * v) p) k (pos 0) l ∙ get_or-drop (6 * v) p k (pos 0) ∙ ap (λ (i : ℕ). get_or p i (pos 0)) e

  first_left : vertex_box (only_positions (take m (drop (6 * v) p))) 0 ≡ vertex_box (only_positions p) v
  first_left =
      let x = own_number 0 (6 * v) (omega arith) (omega arith) in
      let y = own_number 1 (6 * v + 1) (omega arith) (omega arith) in
      let z = own_number 2 (6 * v + 2) (omega arith) (omega arith) in
      let xe = own_number 3 (6 * v + 3) (omega arith) (omega arith) in
      let ye = own_number 4 (6 * v + 3 + 1) (omega arith) (omega arith) in
      let ze = own_number 5 (6 * v + 3 + 2) (omega arith) (omega arith) in
      λ t. record { x = between (x t) (xe t); y = between (y t) (ye t); z = between (z t) (ze t) }

  pub vertex_taken : {l l' : List ℤ} → BoxStored l 0 (vertex_box (only_positions (take m (drop (6 * v) p))) 0) l'
      → BoxStored l 0 (vertex_box (only_positions p) v) l'
  vertex_taken {l} {l'} = subst (λ (b : Box). BoxStored l 0 b l') first_left

pub one_more_joined : {p q : Box} {l l₁ l₂ : List ℤ} → WorkedOut p l → BoxStored l 0 q l₁ → BoxStored l₁ 1 (joint_box (box_at l₁ 1) (box_at l₁ 0)) l₂
    → WorkedOut (joint_box p q) l₂
one_more_joined so stored joined =
    let one = others_kept stored 1 (omega arith) ∙ so.here in
    let two = stored.here in
    record { here = joined.here ∙ λ t. joint_box (one t) (two t); same = joined.same ∙ stored.same ∙ so.same }

pub two_joined : {p q : Box} {l l₁ l₂ l₃ l₄ : List ℤ} → length l ≡ work_numbers → BoxStored l 0 p l₁ → BoxStored l₁ 1 (joint_box (box_at l₁ 0) (box_at l₁ 0)) l₂
    → BoxStored l₂ 0 q l₃
    → BoxStored l₃ 1 (joint_box (box_at l₃ 1) (box_at l₃ 0)) l₄
    → WorkedOut (joint_box p q) l₄
two_joined {p} {q} {l} {l₁} long first alone stored joined =
    let one = first.here in
    let so : WorkedOut p _ = record { here = alone.here ∙ box_itself (box_at l₁ 0) ∙ one; same = alone.same ∙ first.same ∙ long } in
    one_more_joined so stored joined

-- copied span by span
module _ (own l : List ℤ) (k : ℕ) {l₁ l₂ l₃ : List ℤ} (first : l₁ ≡ with_span l (6 * k) (span_at own 6))
    (second : l₂ ≡ with_span l₁ (6 * k + 1) (span_at own 7)) (third : l₃ ≡ with_span l₂ (6 * k + 2) (span_at own 8)) where
  pub box_copied : 6 * k + 5 < length l → BoxStored l k (box_at own 1) l₃
  box_copied h =
      let front = second ∙ λ t. with_span (first t) (6 * k + 1) (span_at own 7) in
      let whole : l₃ ≡ with_box l k (box_at own 1) = third ∙ λ t. with_span (front t) (6 * k + 2) (span_at own 8) in
      subst (BoxStored l k (box_at own 1)) (sym whole) (box_stored l k (box_at own 1) h)

-- ---- stored, or left

pub stored_if : {l l' : List ℤ} {k n : ℕ} {has r : Bool} {b c : Box} → r ≡ has → r ≡ true → n ≡ k → c ≡ b → BoxStored l n c l'
    → BoxStored l k (cond has b (box_at l k)) l'
stored_if {l} {l'} {k} {n} {has} {r} {b} {c} e t place same stored =
    rw (sym e ∙ t) (record {
      here = rw place at stored.here ∙ same;
      front = λ i h. stored.front i (rw place h);
      behind = λ i h. stored.behind i (rw place h);
      same = stored.same;
    })

pub left_if : (l : List ℤ) (k : ℕ) {has r : Bool} (b : Box) → r ≡ has → r ≡ false → BoxStored l k (cond has b (box_at l k)) l
left_if l k b e t = rw (sym e ∙ t) (record { here = refl; front = λ i h. refl; behind = λ i h. refl; same = refl })

-- ---- parts that are passed

-- n numbers from a place on are there, and none of them is v
pub record Missing (l : List ℕ) (from n v : ℕ) : Type 0 where
  pub there : from + n ≤ length l
  pub none : (i : ℕ) → from ≤ i → i < from + n → eqb (get_or l i 0) v ≡ false

-- none of the first k is v, unless one was found
pub record NoneBelow (l : List ℕ) (from k v : ℕ) (found : Bool) : Type 0 where
  pub none : found ≡ false → (i : ℕ) → from ≤ i → i < from + k → eqb (get_or l i 0) v ≡ false

pub none_yet : (l : List ℕ) (from v : ℕ) (found : Bool) → NoneBelow l from 0 v found
none_yet l from v found = record { none = λ e i low high. absurd (omega arith) }

pub one_more : {l : List ℕ} {from k v : ℕ} {found : Bool} → NoneBelow l from k v found
    → NoneBelow l from (k + 1) v (found || eqb (get_or l (from + k) 0) v)
one_more {l} {from} {k} {v} {found} so =
    record {
      none = λ e i low high.
          ⊎_elim
          (λ le. let here : from + k ≡ i = omega arith in rw here at (or_rest found (eqb (get_or l (from + k) 0) v) e))
          (λ lt. so.none (or_left found (eqb (get_or l (from + k) 0) v) e) i low lt)
          (le_or_lt (from + k) i);
    }

not_found : (b : Bool) → not b ≡ true → b ≡ false
not_found true e = absurd (true≢false (sym e))
not_found false e = refl

pub all_missing : {l : List ℕ} {from k v : ℕ} {found : Bool} (n : ℕ) → n ≤ length l - from → from ≤ length l → n ≤ k → NoneBelow l from k v found → not found ≡ true
    → Missing l from n v
all_missing {found = found} n room inside all so e =
    record { there = omega arith; none = λ i low high. so.none (not_found found e) i low (omega arith) }

-- from a place on, as far as r, no number is v
pub record Passed (l : List ℕ) (from v r : ℕ) : Type 0 where
  pub onward : from ≤ r
  pub inside : r ≤ length l
  pub none : (i : ℕ) → from ≤ i → i < r → eqb (get_or l i 0) v ≡ false

pub none_passed : (l : List ℕ) (from v : ℕ) → from ≤ length l → Passed l from v from
none_passed l from v h = record { onward = omega arith; inside = h; none = λ i low high. absurd (omega arith) }

pub passed_on : {l : List ℕ} {from v at r : ℕ} → Passed l from v at → Passed l at v r → Passed l from v r
passed_on {l} {from} {v} {at} {r} so more =
    record {
      onward = omega (arith, so.onward, more.onward);
      inside = more.inside;
      none = λ i low high. ⊎_elim (λ le. more.none i le high) (λ lt. so.none i low lt) (le_or_lt at i);
    }

pub missing_passed : {l : List ℕ} {at n v : ℕ} → Missing l at n v → Passed l at v (at + n)
missing_passed so = record { onward = omega arith; inside = so.there; none = so.none }

-- of the parts below `count` none from j on, as far as r, has the vertex
pub record Skipped (count : ℕ) (has : ℕ → Bool) (j r : ℕ) : Type 0 where
  pub onward : j ≤ r
  pub inside : r ≤ count
  pub none : (i : ℕ) → j ≤ i → i < r → has i ≡ false

pub edges_skipped : (s : Scene) (v j : ℕ) {r : ℕ} → Passed s.edges (2 * j) v r → Skipped (edge_count s) (edge_has s v) j (r / 2)
edges_skipped s v j {r} so =
    record {
      onward = omega (arith, so.onward);
      inside = omega (arith, so.inside);
      none = λ i low high. rw (so.none (2 * i + 0) (omega arith) (omega arith), so.none (2 * i + 1) (omega arith) (omega arith));
    }

pub triangles_skipped : (s : Scene) (v j : ℕ) {r : ℕ} → Passed s.triangles (3 * j) v r → Skipped (triangle_count s) (triangle_has s v) j (r / 3)
triangles_skipped s v j {r} so =
    record {
      onward = omega (arith, so.onward);
      inside = omega (arith, so.inside);
      none = λ i low high.
          rw (so.none (3 * i + 0) (omega arith) (omega arith), so.none (3 * i + 1) (omega arith) (omega arith), so.none (3 * i + 2) (omega arith) (omega arith));
    }

-- ---- one after the other

-- of n boxes from `first` on those that `has` names are the wanted ones, and no other number has changed
pub record Mended (l : List ℤ) (first n : ℕ) (has : ℕ → Bool) (want : ℕ → Box) (l' : List ℤ) : Type 0 where
  pub boxes : BoxesStand l' first n (λ i. cond (has i) (want i) (box_at l (first + i)))
  pub front : (i : ℕ) → i < 6 * first → get_or l' i (pos 0) ≡ get_or l i (pos 0)
  pub behind : KeptBehind l l' (first + n)

pub mended_none : (l : List ℤ) (first : ℕ) (has : ℕ → Bool) (want : ℕ → Box) → Mended l first 0 has want l
mended_none l first has want =
    record {
      boxes = record { at = λ i h. absurd (not-suc-le-zero h) };
      front = λ i h. refl;
      behind = record { at = λ i h. refl; same = refl };
    }

module _ {l l₁ l₂ : List ℤ} {first n : ℕ} {has : ℕ → Bool} {want : ℕ → Box} (so : Mended l first n has want l₁)
    (stored : BoxStored l₁ (first + n) (cond (has n) (want n) (box_at l₁ (first + n))) l₂) where
  untouched : box_at l₁ (first + n) ≡ box_at l (first + n)
  untouched = same_box l l₁ (first + n) (λ i h p. so.behind.at i (omega arith))

  pub mended_more : Mended l first (n + 1) has want l₂
  mended_more =
      record {
        boxes = record {
          at = λ i p.
              ⊎_elim
              (λ le.
              let here : n ≡ i = omega arith in
              subst (λ (m : ℕ). box_at l₂ (first + m) ≡ cond (has m) (want m) (box_at l (first + m))) here
              (stored.here ∙ ap (λ (b : Box). cond (has n) (want n) b) untouched))
              (λ lt. others_kept stored (first + i) (omega arith) ∙ so.boxes.at i lt)
              (le_or_lt n i);
        };
        front = λ i h. stored.front i (omega arith) ∙ so.front i h;
        behind = record {
          at = λ i h. stored.behind i (omega arith) ∙ so.behind.at i (omega arith);
          same = stored.same ∙ so.behind.same;
        };
      }

-- so many parts that have the vertex nowhere are passed
pub mended_passed : {l l' : List ℤ} {first n : ℕ} {has : ℕ → Bool} {want : ℕ → Box} (m : ℕ) → Mended l first n has want l'
    → ((i : ℕ) → n ≤ i → i < n + m → has i ≡ false)
    → Mended l first (n + m) has want l'
mended_passed {l} {l'} {first} {n} m so none =
    record {
      boxes = record {
        at = λ i p.
            ⊎_elim
            (λ le. rw (none i le p) (same_box l l' (first + i) (λ k h q. so.behind.at k (omega arith))))
            (λ lt. so.boxes.at i lt)
            (le_or_lt n i);
      };
      front = so.front;
      behind = record { at = λ i h. so.behind.at i (omega arith); same = so.behind.same };
    }

pub mended_all : {l l' : List ℤ} {first n m : ℕ} {has : ℕ → Bool} {want : ℕ → Box} → n ≡ m → Mended l first n has want l' → Mended l first m has want l'
mended_all e so = rw e at so

pub mended_skipped : {l l' : List ℤ} {first count n r : ℕ} {has : ℕ → Bool} {want : ℕ → Box} → Mended l first n has want l' → Skipped count has n r
    → Mended l first r has want l'
mended_skipped {n = n} {r = r} so gone =
    mended_all (omega (arith, gone.onward)) (mended_passed (r - n) so (λ i low high. gone.none i low (omega (arith, gone.onward))))
