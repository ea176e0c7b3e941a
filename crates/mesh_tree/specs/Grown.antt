-- The boxes of all nodes of a tree in a list, level by level: the parts' from one box on, the levels above one behind the other from another.
use Prim.Native.Nat.{ℕ, zero, suc, ◌+◌, ◌*◌, ◌-◌, ◌≤◌, ◌<◌}
use Rattle.std.specs.Prelude.{true, false, ◌&&◌, List, ◌≢◌, ◌⊎◌, ◌≡◌, refl, ltb, ℤ, pos, length, get_or, set}
use Rattle.std.proofs.Common.{inl, inr, ⊎_elim, ltb-true, ltb-false, ◌∙◌, not-suc-le-zero, add-one, length-set, get_or-set_same, get_or-set_other}
use Rattle.std.proofs.Math.Logic.{⊎_elim}
use native.Mathlib.Omega.{arith}
use Rattle.sequences.specs.Range.{le_or_lt}
use Rattle.meaning.specs.Runs.{runs_of, run_from, run_to}
use Rattle.sequences.specs.Pick.{both, not_both}
use Rattle.meaning.specs.StoredBoxes.{box_at, BoxesStand}
use Rattle.meaning.specs.MeshRows.{tree_room}
use Rattle.list_boxes.specs.Storing.{same_box}
use Rattle.list_runs.specs.Joined.{joint_same}
use Rattle.list_runs.specs.Filled.{RunsFilled, run_inside}
use Rattle.mesh_tree.specs.Levels.{nodes_at, node_box}

-- the nodes of the levels above the parts, up to and with a level
unfoldable pub nodes_up_to : ℕ → ℕ → ℕ
nodes_up_to n zero = 0
nodes_up_to n (suc v) = nodes_up_to n v + nodes_at n (suc v)

-- the box with which a level begins: the parts' stand from `first` on, and from `to` on level stands behind level
unfoldable pub level_place : ℕ → ℕ → ℕ → ℕ → ℕ
level_place first to n zero = first
level_place first to n (suc v) = to + nodes_up_to n v

-- how high a tree is grown: while a level has more than one node, and never above level 16
pub record Height (n top : ℕ) : Type 0 where
  pub more : (v : ℕ) → v < top → 1 < nodes_at n v
  pub most : top ≤ 16
  pub ends : (nodes_at n top ≤ 1) ⊎ (16 ≤ top)

-- the levels up to v stand in the list: it was l and is l', each node is the joint box of its 16, and no other number has changed
pub record Growing (l : List ℤ) (first n to v : ℕ) (l' : List ℤ) : Type 0 where
  pub nodes : (u : ℕ) → u ≤ v → BoxesStand l' (level_place first to n u) (nodes_at n u) (node_box (λ j. box_at l (first + j)) n u)
  pub front : (i : ℕ) → i < 6 * to → get_or l' i (pos 0) ≡ get_or l i (pos 0)
  pub behind : (i : ℕ) → 6 * (to + nodes_up_to n v) ≤ i → get_or l' i (pos 0) ≡ get_or l i (pos 0)
  pub same : length l' ≡ length l

-- where each level begins and how many nodes it has, in a list of numbers: it was t and is t', and no other number has changed
pub record Told (t : List ℕ) (first n to v : ℕ) (t' : List ℕ) : Type 0 where
  pub places : (u : ℕ) → u ≤ v → get_or t' (2 * u) 0 ≡ level_place first to n u
  pub counts : (u : ℕ) → u ≤ v → get_or t' (2 * u + 1) 0 ≡ nodes_at n u
  pub behind : (i : ℕ) → 2 * v + 2 ≤ i → get_or t' i 0 ≡ get_or t i 0
  pub same : length t' ≡ length t

-- ---- a level more

pub growing_starts : (l : List ℤ) (first n to : ℕ) → Growing l first n to 0 l
unfolding level_place nodes_at node_box
growing_starts l first n to =
    record {
      nodes = λ u h. let here : u ≡ 0 = omega arith in rw here (record { at = λ i p. refl });
      front = λ i h. refl;
      behind = λ i h. refl;
      same = refl;
    }

-- where a level begins is before where the next does
pub level_before : (first n to v : ℕ) → first + n ≤ to → level_place first to n v + nodes_at n v ≤ level_place first to n (suc v)
unfolding level_place nodes_at nodes_up_to
level_before first n to zero h = omega arith
level_before first n to (suc v) h = omega arith

pub levels_before : (first n to v : ℕ) → first + n ≤ to → (u : ℕ) → u ≤ v
    → level_place first to n u + nodes_at n u ≤ level_place first to n (suc v)
unfolding level_place nodes_at nodes_up_to
levels_before first n to zero h u below =
    let here : u ≡ 0 = omega arith in
    rw here (level_before first n to 0 h)
levels_before first n to (suc v) h u below =
    ⊎_elim
    (λ last. let here : u ≡ suc v = omega arith in rw here (level_before first n to (suc v) h))
    (λ lower. omega (arith, levels_before first n to v h u (omega arith)))
    (le_or_lt (suc v) u)

module _ {l l₁ l₂ : List ℤ} (first n to v : ℕ) (apart : first + n ≤ to) (so : Growing l first n to v l₁)
    (runs : RunsFilled l₁ (level_place first to n v) (nodes_at n v) (level_place first to n (suc v)) l₂) where
  level_new : BoxesStand l₂ (level_place first to n (suc v)) (nodes_at n (suc v)) (node_box (λ j. box_at l (first + j)) n (suc v))
  unfolding nodes_at node_box
  level_new =
      record {
        at = λ r h.
            let (some, most) = run_inside (nodes_at n v) r h in
            runs.runs.at r h
            ∙ joint_same (λ j. box_at l₁ (level_place first to n v + j)) (node_box (λ j. box_at l (first + j)) n v) (run_from r)
            (run_to (nodes_at n v) r - run_from r - 1)
            (λ j p q. (so.nodes v (omega arith)).at j (omega arith));
      }

  level_old : (u : ℕ) → u ≤ v → BoxesStand l₂ (level_place first to n u) (nodes_at n u) (node_box (λ j. box_at l (first + j)) n u)
  level_old u below =
      record {
        at = λ r h.
            same_box l₁ l₂ (level_place first to n u + r) (λ i p q. runs.front i (omega (arith, levels_before first n to v apart u below)))
            ∙ (so.nodes u below).at r h;
      }

  pub growing_step : Growing l first n to (v + 1) l₂
  unfolding level_place nodes_at nodes_up_to
  growing_step =
      rw (add-one v) (record {
        nodes = λ u h.
            ⊎_elim
            (λ last. let here : u ≡ suc v = omega arith in rw here level_new)
            (λ lower. level_old u (omega arith))
            (le_or_lt (suc v) u);
        front = λ i h. runs.front i (omega arith) ∙ so.front i h;
        behind = λ i h. runs.behind i (omega arith) ∙ so.behind i (omega arith);
        same = runs.same ∙ so.same;
      })

-- ---- how much room it takes: 15 nodes in 16 stand for one less below, and a level has one that is not full

-- a level and all above the parts: fifteen times their nodes
pub few_nodes : (n v : ℕ) → 15 * nodes_up_to n v + nodes_at n v ≤ n + 15 * v
unfolding nodes_at nodes_up_to
few_nodes n zero = omega arith
few_nodes n (suc v) = omega (arith, few_nodes n v)

pub room_enough : (n v : ℕ) → v ≤ 16 → nodes_up_to n v ≤ tree_room n
room_enough n v h = omega (arith, few_nodes n v)

pub fewer_nodes : (n v : ℕ) → nodes_at n v ≤ n
unfolding nodes_at
fewer_nodes n zero = omega arith
fewer_nodes n (suc v) = omega (arith, fewer_nodes n v)

-- ---- a level more is told

abbrev pub with_level : List ℕ → ℕ → ℕ → ℕ → List ℕ
with_level t v place count = set (set t (2 * v) place) (2 * v + 1) count

module _ (t : List ℕ) (v place count : ℕ) (room : 2 * v + 1 < length t) where
  level_place_lem : get_or (with_level t v place count) (2 * v) 0 ≡ place
  level_place_lem =
      get_or-set_other (set t (2 * v) place) (2 * v + 1) (2 * v) count 0 (omega arith)
      ∙ get_or-set_same t (2 * v) place 0 (omega arith)

  level_count : get_or (with_level t v place count) (2 * v + 1) 0 ≡ count
  level_count = get_or-set_same (set t (2 * v) place) (2 * v + 1) count 0 (rw length-set room)

  level_other : (i : ℕ) → i ≢ 2 * v → i ≢ 2 * v + 1 → get_or (with_level t v place count) i 0 ≡ get_or t i 0
  level_other i p q =
      get_or-set_other (set t (2 * v) place) (2 * v + 1) i count 0 q
      ∙ get_or-set_other t (2 * v) i place 0 p

pub told_starts : (t : List ℕ) (first n to : ℕ) → 2 ≤ length t → Told t first n to 0 (with_level t 0 first n)
unfolding level_place nodes_at
told_starts t first n to room =
    record {
      places = λ u h. let here : u ≡ 0 = omega arith in rw here (level_place_lem t 0 first n (omega arith));
      counts = λ u h. let here : u ≡ 0 = omega arith in rw here (level_count t 0 first n (omega arith));
      behind = λ i h. level_other t 0 first n (omega arith) i (omega arith) (omega arith);
      same = simp length-set;
    }

module _ {t t₁ t₂ : List ℕ} (first n to v : ℕ) (so : Told t first n to v t₁) (room : 2 * (v + 1) + 1 < length t₁)
    (wrote : t₂ ≡ with_level t₁ (v + 1) (level_place first to n (v + 1)) (nodes_at n (v + 1))) where
  pub told_step : Told t first n to (v + 1) t₂
  told_step =
      let place = level_place first to n (v + 1) in
      let count = nodes_at n (v + 1) in
      rw wrote (record {
        places = λ u h.
            ⊎_elim
            (λ last. let here : u ≡ v + 1 = omega arith in rw here (level_place_lem t₁ (v + 1) place count room))
            (λ lower. level_other t₁ (v + 1) place count room (2 * u) (omega arith) (omega arith) ∙ so.places u (omega arith))
            (le_or_lt (v + 1) u);
        counts = λ u h.
            ⊎_elim
            (λ last. let here : u ≡ v + 1 = omega arith in rw here (level_count t₁ (v + 1) place count room))
            (λ lower. level_other t₁ (v + 1) place count room (2 * u + 1) (omega arith) (omega arith) ∙ so.counts u (omega arith))
            (le_or_lt (v + 1) u);
        behind = λ i h. level_other t₁ (v + 1) place count room i (omega arith) (omega arith) ∙ so.behind i (omega arith);
        same = simp length-set so.same;
      })

-- told from where level 0 is told already
pub told_itself : {t t₁ : List ℕ} {first n to : ℕ} → Told t first n to 0 t₁ → Told t₁ first n to 0 t₁
told_itself so = record { places = so.places; counts = so.counts; behind = λ i h. refl; same = refl }

pub told_from : {t t₁ t₂ : List ℕ} {first n to v : ℕ} → Told t first n to 0 t₁ → Told t₁ first n to v t₂ → Told t first n to v t₂
told_from before so =
    record {
      places = so.places;
      counts = so.counts;
      behind = λ i h. so.behind i h ∙ before.behind i (omega arith);
      same = so.same ∙ before.same;
    }

-- ---- the loop

-- at level v: so many nodes, which begin at a box, and the first box that is free
pub record AtLevel (first n to v at count free : ℕ) : Type 0 where
  pub begins : at ≡ level_place first to n v
  pub many : count ≡ nodes_at n v
  pub next : free ≡ to + nodes_up_to n v
  pub low : v ≤ 16
  pub more : (u : ℕ) → u < v → 1 < nodes_at n u

pub level_starts : (first n to : ℕ) → AtLevel first n to 0 first n to
unfolding level_place nodes_at nodes_up_to
level_starts first n to =
    record { begins = refl; many = refl; next = omega arith; low = omega arith; more = λ u h. absurd (not-suc-le-zero h) }

pub level_next : {first n to v at count free : ℕ} → AtLevel first n to v at count free → 1 < count → v < 16
    → AtLevel first n to (v + 1) free (runs_of count) (free + runs_of count)
unfolding level_place nodes_at nodes_up_to
level_next {first} {n} {to} {v} {at} {count} {free} so tall low =
    let many = so.many in
    rw (add-one v) (record {
      begins = so.next;
      many = rw many refl;
      next = rw (many, so.next) (omega arith);
      low = omega arith;
      more = λ u h.
          ⊎_elim
          (λ last. let here : u ≡ v = omega arith in rw here (omega arith))
          (λ lower. so.more u lower)
          (le_or_lt v u);
    })

pub level_ends : {first n to v at count free : ℕ} → AtLevel first n to v at count free → (count ≤ 1) ⊎ (16 ≤ v) → Height n v
level_ends {first} {n} {to} {v} so h =
    record { more = so.more; most = so.low; ends = ⊎_elim (λ one. inl (omega (arith, so.many))) (λ high. inr high) h }

-- ---- what the loop's body asks, and what it leaves

module _ {first n to v begin count free : ℕ} (apart : first + n ≤ to) (so : AtLevel first n to v begin count free) (low : v < 16) where
  -- there is room for a level more
  pub level_fits : (b : ℕ) → 6 * (to + tree_room n) ≤ b → (begin + count ≤ free) × (6 * (free + runs_of count) ≤ b)
  unfolding level_place nodes_at nodes_up_to
  level_fits b room =
      let begins = so.begins in
      let many = so.many in
      let next = so.next in
      let before = level_before first n to v apart in
      let enough = room_enough n (suc v) (omega arith) in
      (omega arith, rw many (omega arith))

  module _ {runs : ℕ} (tall : 1 < count) (made : runs ≡ runs_of count) where
    pub level_again : AtLevel first n to (v + 1) free runs (free + runs)
    level_again = rw made (level_next so tall low)

    pub nodes_again : {l l₁ l₂ : List ℤ} → Growing l first n to v l₁ → RunsFilled l₁ begin count free l₂ → Growing l first n to (v + 1) l₂
    unfolding level_place
    nodes_again grown filled = growing_step first n to v apart grown (rw (so.begins, so.many, so.next) at filled)

    pub levels_again : {t t₁ t₂ : List ℕ} → Told t first n to v t₁ → 34 ≤ length t → t₂ ≡ with_level t₁ (v + 1) free runs
        → Told t first n to (v + 1) t₂
    levels_again {t} {t₁} told room wrote =
        let place = level_again.begins in
        let many = level_again.many in
        let same = told.same in
        told_step first n to v told (omega arith) (wrote ∙ λ k. with_level t₁ (v + 1) (place k) (many k))

pub told_first : {t t₁ : List ℕ} (first n to : ℕ) → 34 ≤ length t → t₁ ≡ with_level t 0 first n → Told t first n to 0 t₁
told_first {t} first n to room wrote = rw wrote (told_starts t first n to (omega arith))

-- what is promised of a tree that was grown: its height, its nodes and its levels
pub record Grown (l l' : List ℤ) (t t' : List ℕ) (first n to top : ℕ) : Type 0 where
  pub height : Height n top
  pub nodes : Growing l first n to top l'
  pub levels : Told t first n to top t'

-- whether two more nodes stand there, and a level for them: they do, or not
pub test_passed : (count v : ℕ) → ltb 1 count && ltb v 16 ≡ true → (1 < count) × (v < 16)
test_passed count v e =
    let (many, low) = both (ltb 1 count) (ltb v 16) e in
    (ltb-true 1 count many, ltb-true v 16 low)

pub test_failed : (count v : ℕ) → ltb 1 count && ltb v 16 ≡ false → (count ≤ 1) ⊎ (16 ≤ v)
test_failed count v e =
    ⊎_elim
    (λ few. inl (ltb-false 1 count few))
    (λ high. inr (ltb-false v 16 high.1))
    (not_both (ltb 1 count) (ltb v 16) e)
