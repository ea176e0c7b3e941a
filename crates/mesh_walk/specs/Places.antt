-- The places whose part passes a test, in order, from a place on; what a step of a walk over a tree leaves of them.
use Rattle.std.specs.Prelude.{ℕ, zero, suc, ◌+◌, ◌*◌, ◌-◌, ◌/◌, ◌%◌, ◌≤◌, ◌<◌, Bool, true, false, ◌&&◌, ◌↔◌, ◌≡◌, ltb, eqb, length}
use mathlib.Core.List.{List, [], ◌∷◌, ◌++◌, Memᴰ}
use Rattle.std.proofs.Common.{⊎_elim, sym, ◌∙◌, subst, not-suc-le-zero, not-le_of_lt, add-one, arith, ltb-true, eqb-true}
use Rattle.std.proofs.Math.Path.{refl, ap}
use Rattle.sequences.specs.Chosen.{one, chosen, chosen_none, chosen_left, chosen_took, chosen_short, chosen_members}
use Rattle.sequences.specs.Pick.{pick, both}
use Rattle.sequences.specs.Range.{le_or_lt, towards}
use Rattle.sequences.specs.Rising.{Rising, rising_chosen}
use Rattle.mesh_tree.specs.Levels.{nodes_at, first_under, under_rises, all_passed, passed_all}
use Rattle.mesh_entries.specs.Entering.{Entered, Entering, entering_as, entering_step}

-- of the n places those from i on whose part passes the test
abbrev pub places_from : (ℕ → Bool) → ℕ → ℕ → List ℕ
places_from m n i = chosen m (λ j. j) i n

-- exactly these, and rising: so each once
pub places_exactly : (m : ℕ → Bool) (n i j : ℕ) → Memᴰ j (places_from m n i) ↔ ((i ≤ j) × (j < n) × (m j ≡ true))
places_exactly m n i j = (
  λ h.
      let (k, p, q, e, same) = (chosen_members m (λ j. j) i n j).0 h in
      rw same (p, q, e),
  λ h. (chosen_members m (λ j. j) i n j).1 (j, h.0, h.1, h.2, refl),
)

pub places_rise : (m : ℕ → Bool) (n i : ℕ) → Rising ◌<◌ (places_from m n i)
places_rise m n i = rising_chosen ◌<◌ m (λ j. j) i n (λ j k h. h)

-- where none passes, a walk goes on behind them
pub places_skipped : (m : ℕ → Bool) (n b a : ℕ) → a ≤ b → ((j : ℕ) → a ≤ j → j < b → j < n → m j ≡ false)
    → places_from m n a ≡ places_from m n b
places_skipped m n b =
    towards b (λ a. a ≤ b → ((j : ℕ) → a ≤ j → j < b → j < n → m j ≡ false) → places_from m n a ≡ places_from m n b)
    (λ a past le none. let here : a ≡ b = omega arith in ap (places_from m n) here)
    (λ a lt next le none.
    ⊎_elim
    (λ end. chosen_none m (λ j. j) a n end ∙ sym (chosen_none m (λ j. j) b n (omega arith)))
    (λ there.
    chosen_left m (λ j. j) a n there (none a (omega arith) lt there)
    ∙ next (omega arith) (λ j low high few. none j (omega arith) high few))
    (le_or_lt n a))

-- ---- nodes

-- up from the first of 16, and down to the first of 16: the first part is the same
pub up_same : (v r : ℕ) → r % 16 ≡ 0 → first_under (v + 1) (r / 16) ≡ first_under v r
unfolding first_under
up_same v r e =
    let whole : 16 * (r / 16) ≡ r = omega arith in
    rw (add-one v) (ap (first_under v) whole)

pub down_same : (v r : ℕ) → 0 < v → first_under (v - 1) (16 * r) ≡ first_under v r
unfolding first_under
down_same zero r h = absurd (not-suc-le-zero h)
down_same (suc v) r h =
    let one : suc v - 1 ≡ v = omega arith in
    rw one

-- the test of going up
pub up_test : (v top r : ℕ) → ltb v top && eqb (r % 16) 0 ≡ true → (v < top) × (r % 16 ≡ 0)
up_test v top r e =
    let (low, first) = both (ltb v top) (eqb (r % 16) 0) e in
    (ltb-true v top low, eqb-true (r % 16) 0 first)

-- a node that is there has a part
pub node_there : (n v r : ℕ) → r < nodes_at n v → first_under v r < n
node_there n v r h =
    ⊎_elim
    (λ past. absurd (not-le_of_lt h (passed_all n v r past)))
    (λ there. there)
    (le_or_lt n (first_under v r))

pub child_there : (n v r : ℕ) → 0 < v → r < nodes_at n v → 16 * r < nodes_at n (v - 1)
unfolding nodes_at
child_there n zero r h k = absurd (not-suc-le-zero h)
child_there n (suc v) r h k =
    let one : suc v - 1 ≡ v = omega arith in
    rw one (omega arith)

-- ---- a step

-- from the node r of level v a walk has come to the node r' of level v', and has found the part r or none: what was to be found is that
-- and what is left, and the walk comes to an end
pub record Stepped (m : ℕ → Bool) (n top v r v' r' : ℕ) (found : Bool) : Type 0 where
  pub low : v' ≤ top
  pub rest : places_from m n (first_under v r) ≡ pick found (r ∷ places_from m n (first_under v' r')) (places_from m n (first_under v' r'))
  pub falls : 17 * (n - first_under v' r') + v' < 17 * (n - first_under v r) + v

module _ (m : ℕ → Bool) (n top v r v' r' : ℕ) (low : v' ≤ top) (most : top ≤ 16) (there : r < nodes_at n v) where
  -- missed: no part under the node passes
  pub step_missed : ((j : ℕ) → first_under v r ≤ j → j < first_under v (r + 1) → j < n → m j ≡ false)
      → first_under v' r' ≡ first_under v (r + 1) → Stepped m n top v r v' r' false
  step_missed none next =
      let rises = under_rises v r (r + 1) (omega arith) in
      let some = node_there n v r there in
      record {
        low = low;
        rest = places_skipped m n (first_under v (r + 1)) (first_under v r) (omega arith) none ∙ ap (places_from m n) (sym next);
        falls = omega arith;
      }

  -- met, above the parts: down
  pub step_down : 0 < v → v' ≡ v - 1 → first_under v' r' ≡ first_under v r → Stepped m n top v r v' r' false
  step_down high e same =
      record { low = low; rest = ap (places_from m n) (sym same); falls = rw same (omega arith) }

  -- met, at a part
  pub step_found : v ≡ 0 → m r ≡ true → first_under v' r' ≡ first_under v (r + 1) → Stepped m n top v r v' r' true
  unfolding first_under nodes_at
  step_found e passes next =
      let part : r < n = rw e at there in
      let here : first_under v r ≡ r = rw e refl in
      let behind : first_under v' r' ≡ r + 1 = next ∙ rw e refl in
      record {
        low = low;
        rest =
            ap (places_from m n) here ∙ chosen_took m (λ j. j) r n part passes
            ∙ ap (λ (l : List ℕ). r ∷ l) (ap (places_from m n) (sym behind));
        falls = rw (behind, here) (omega arith);
      }

-- no node is left
pub places_end : (m : ℕ → Bool) (n v r : ℕ) → nodes_at n v ≤ r → places_from m n (first_under v r) ≡ []
places_end m n v r h = chosen_none m (λ j. j) (first_under v r) n (all_passed n v r h)

-- ---- the loops

-- a walk that starts from the place `from` has all of it before it
pub places_start : (m : ℕ → Bool) (n from v r : ℕ) → first_under v r ≡ first_under 0 from → places_from m n from ≡ places_from m n (first_under v r)
unfolding first_under
places_start m n from v r e = ap (places_from m n) (sym e)

pub places_few : (m : ℕ → Bool) (n from : ℕ) → length (places_from m n from) ≤ n
places_few m n from = omega (arith, chosen_short m (λ j. j) from n)

-- what a step has found is entered
found_one : (found : Bool) (r : ℕ) (rest : List ℕ) → pick found (r ∷ rest) rest ≡ one found r ++ rest
found_one true r rest = refl
found_one false r rest = refl

pub entering_next : {m : ℕ → Bool} {n top v r v' r' most from k k' : ℕ} {found : Bool} {o₀ want o o' : List ℕ}
    → Stepped m n top v r v' r' found → Entering most o₀ from want o k (places_from m n (first_under v r))
    → Entered most o k (one found r) o' k' → Entering most o₀ from want o' k' (places_from m n (first_under v' r'))
entering_next {m} {n} {r = r} {v'} {r'} {found = found} so w e =
    entering_step (entering_as (so.rest ∙ found_one found r (places_from m n (first_under v' r'))) w) e

-- a step that found a place found one that is there
pub found_there : {m : ℕ → Bool} {n top v r v' r' : ℕ} {found : Bool} → Stepped m n top v r v' r' found → found ≡ true → r < n
found_there {m} {n} {v = v} {r} {v'} {r'} so e =
    let here : places_from m n (first_under v r) ≡ r ∷ places_from m n (first_under v' r') = rw e at so.rest in
    let member : Memᴰ r (places_from m n (first_under v r)) =
    subst (λ (l : List ℕ). Memᴰ r l) (sym here) (mathlib.Core.List.Memᴰ.head refl) in
    ((places_exactly m n (first_under v r) r).0 member).1
