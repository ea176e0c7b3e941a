-- Which edges and triangles are listed: of those without a shared vertex exactly the pierced ones, in order.
use Rattle.std.specs.Prelude.{ℕ, ◌≤◌, ◌<◌, Bool, true, false, not, ◌&&◌, ◌↔◌, ◌≡◌, refl}
use Rattle.std.proofs.Common.{arith, sym, ◌∙◌}
use Rattle.std.proofs.lemmas.Bool.{false≢true}
use mathlib.Core.List.{List, [], ◌∷◌, map, Memᴰ}
use Rattle.std.proofs.Math.Logic.{⊎_elim}
use Rattle.std.proofs.Math.Path.{ap, subst}
use Rattle.sequences.specs.Chosen.{one, chosen, chosen_members}
use Rattle.sequences.specs.Gather.{gather_from, gather_has, gather_same}
use Rattle.sequences.specs.Mapped.{map_from}
use Rattle.sequences.specs.Pick.{both}
use Rattle.sequences.specs.Rising.{Rising, rising_gather, rising_chosen}
use Rattle.meaning.specs.Scene.{Scene, edge_count, triangle_count}
use Rattle.meaning.specs.Pierced.{Pierced, PiercedIs, end_is_corner}
use Rattle.meaning.specs.PiercedRows.{Through, through_number, AllPierced, may_pierce, through_row, through_rows, yes_of}
use Rattle.meaning.specs.declared.Frame.{Frame}
use Rattle.pierced_laws.specs.BoxesApart.{boxes_meet_at, boxes_apart_lem}
use Rattle.through_laws.specs.Deciding.{is_pierced, is_pierced_lem, one_answers}
use Rattle.through_laws.specs.Listing.{through, entry_of, entries_of, row_entries, rows_of, rows_entries}

-- ---- of those that were asked those whose answer is yes

map_has : {A B : Type 0} (g : A → B) (l : List A) {a : A} → Memᴰ a l → Memᴰ (g a) (map g l)
map_has g [] m = absurd (mathlib.Core.List.Memᴰ.not-nil m)
map_has g (x ∷ l) m = ⊎_elim (λ e. mathlib.Core.List.Memᴰ.head (ap g e)) (λ n. mathlib.Core.List.Memᴰ.tail (map_has g l n)) (mathlib.Core.List.Memᴰ.cases_cons m)

module _ (f : Frame) (s : Scene) where
  yes_has : (ts : List Through) (bs : List Bool) → AllPierced f s ts bs → (t : Through) → Memᴰ t ts → Pierced s f t.edge t.triangle
      → Memᴰ t (yes_of bs ts)
  unfolding AllPierced yes_of PiercedIs
  yes_has [] bs all t m p = absurd (mathlib.Core.List.Memᴰ.not-nil m)
  yes_has (u ∷ ts) [] all t m p = absurd all
  yes_has (u ∷ ts) (true ∷ bs) all t m p =
      ⊎_elim (λ e. mathlib.Core.List.Memᴰ.head e) (λ n. mathlib.Core.List.Memᴰ.tail (yes_has ts bs all.1 t n p)) (mathlib.Core.List.Memᴰ.cases_cons m)
  yes_has (u ∷ ts) (false ∷ bs) all t m p =
      ⊎_elim
      (λ e. absurd (all.0 (subst (λ (v : Through). Pierced s f v.edge v.triangle) e p)))
      (λ n. yes_has ts bs all.1 t n p)
      (mathlib.Core.List.Memᴰ.cases_cons m)

  yes_from : (ts : List Through) (bs : List Bool) → AllPierced f s ts bs → (t : Through) → Memᴰ t (yes_of bs ts)
      → Memᴰ t ts × Pierced s f t.edge t.triangle
  unfolding AllPierced yes_of PiercedIs
  yes_from [] [] all t m = absurd (mathlib.Core.List.Memᴰ.not-nil m)
  yes_from [] (b ∷ bs) all t m = absurd all
  yes_from (u ∷ ts) [] all t m = absurd all
  yes_from (u ∷ ts) (true ∷ bs) all t m =
      ⊎_elim
      (λ e. (mathlib.Core.List.Memᴰ.head e, subst (λ (v : Through). Pierced s f v.edge v.triangle) (sym e) all.0))
      (λ n. let (there, is) = yes_from ts bs all.1 t n in (mathlib.Core.List.Memᴰ.tail there, is))
      (mathlib.Core.List.Memᴰ.cases_cons m)
  yes_from (u ∷ ts) (false ∷ bs) all t m = let (there, is) = yes_from ts bs all.1 t m in (mathlib.Core.List.Memᴰ.tail there, is)

  -- ---- which are asked

  pub asked_has : (first end i j : ℕ) → first ≤ i → i < end → j < triangle_count s → may_pierce f s i j ≡ true
      → Memᴰ (through i j) (through_rows f s first end)
  asked_has first end i j low high there may =
      gather_has (through_row f s) end i high ((chosen_members (may_pierce f s i) (through i) 0 (triangle_count s) (through i j)).1 (j, omega arith, there, may, refl)) first low

  pub asked_from : (first end : ℕ) (t : Through) → Memᴰ t (through_rows f s first end)
      → (first ≤ t.edge) × (t.edge < end) × (t.triangle < triangle_count s) × (may_pierce f s t.edge t.triangle ≡ true)
  asked_from first end t m =
      let (i, low, high, n) = gather_from (through_row f s) end first m in
      let (j, _, there, may, same) = (chosen_members (may_pierce f s i) (through i) 0 (triangle_count s) t).0 n in
      rw same (low, high, there, may)

  -- an edge through a triangle has boxes that meet
  boxes_meet_lem : (i j : ℕ) → Pierced s f i j → boxes_meet_at s f i j ≡ true
  boxes_meet_lem i j p = go (boxes_meet_at s f i j) refl
    where
      go : (b : Bool) → boxes_meet_at s f i j ≡ b → boxes_meet_at s f i j ≡ true
      go true e = e
      go false e = absurd (boxes_apart_lem s f i j e p)

  pierced_may : (i j : ℕ) → end_is_corner s i j ≡ false → Pierced s f i j → may_pierce f s i j ≡ true
  pierced_may i j apart p = rw apart (boxes_meet_lem i j p)

  -- so a row is what it would be with no boxes looked at
  enough : (a b p : Bool) → (p ≡ true → b ≡ true) → (a && b) && p ≡ a && p
  enough false b p h = refl
  enough true b false h = and_false b
    where
      and_false : (b : Bool) → b && false ≡ false
      and_false true = refl
      and_false false = refl
  enough true b true h = rw (h refl)

  pub row_passes : (i : ℕ) → entries_of f s (through_row f s i)
      ≡ chosen (λ j. not (end_is_corner s i j) && is_pierced f s i j) (entry_of i) 0 (triangle_count s)
  unfolding PiercedIs
  row_passes i =
      row_entries f s i
      ∙ gather_same
      (λ j. one (may_pierce f s i j && is_pierced f s i j) (entry_of i j))
      (λ j. one (not (end_is_corner s i j) && is_pierced f s i j) (entry_of i j))
      0 (triangle_count s)
      (λ j a b.
      ap (λ (t : Bool). one t (entry_of i j))
      (enough (not (end_is_corner s i j)) (boxes_meet_at s f i j) (is_pierced f s i j)
      (λ e. boxes_meet_lem i j (subst (PiercedIs s f i j) e (is_pierced_lem s f i j)))))

  not_so : (b : Bool) → not b ≡ true → b ≡ false
  not_so true e = absurd (false≢true e)
  not_so false e = refl

  -- ---- of rows the pierced ones, whatever answers are right

  module _ (first end : ℕ) (bs : List Bool) (all : AllPierced f s (through_rows f s first end) bs) where
    -- without a shared vertex: listed exactly when pierced
    pub listed_exactly : (i j : ℕ) → first ≤ i → i < end → j < triangle_count s → end_is_corner s i j ≡ false
        → Memᴰ (through i j) (yes_of bs (through_rows f s first end)) ↔ Pierced s f i j
    listed_exactly i j low high there apart = (
      λ m. (yes_from (through_rows f s first end) bs all (through i j) m).1,
      λ p. yes_has (through_rows f s first end) bs all (through i j) (asked_has first end i j low high there (pierced_may i j apart p)) p,
    )

    -- the same of the entries
    pub entry_exactly : triangle_count s ≤ 4_294_967_296 → (i j : ℕ) → first ≤ i → i < end → j < triangle_count s → end_is_corner s i j ≡ false
        → Memᴰ (entry_of i j) (map through_number (yes_of bs (through_rows f s first end))) ↔ Pierced s f i j
    entry_exactly few i j low high there apart = (
      λ m.
          let (t, n, same) = map_from through_number (yes_of bs (through_rows f s first end)) m in
          let (asked, is) = yes_from (through_rows f s first end) bs all t n in
          let (_, _, inside, _) = asked_from first end t asked in
          let edge : t.edge ≡ i = omega arith in
          let triangle : t.triangle ≡ j = omega arith in
          subst (λ (v : Through). Pierced s f v.edge v.triangle) (λ k. record { edge = edge k; triangle = triangle k }) is,
      λ p. map_has through_number (yes_of bs (through_rows f s first end)) ((listed_exactly i j low high there apart).1 p),
    )

    -- and nothing else is listed
    pub listed_there : (t : Through) → Memᴰ t (yes_of bs (through_rows f s first end))
        → (first ≤ t.edge) × (t.edge < end) × (t.triangle < triangle_count s) × (end_is_corner s t.edge t.triangle ≡ false)
        × Pierced s f t.edge t.triangle
    listed_there t m =
        let (asked, is) = yes_from (through_rows f s first end) bs all t m in
        let (low, high, there, may) = asked_from first end t asked in
        let boxes = boxes_meet_at s f t.edge t.triangle in
        (low, high, there, not_so (end_is_corner s t.edge t.triangle) (both (not (end_is_corner s t.edge t.triangle)) boxes may).0, is)

-- ---- in order

pub rows_rise : (f : Frame) (s : Scene) → triangle_count s ≤ 4_294_967_296 → (first end : ℕ) → Rising ◌<◌ (rows_of f s first end)
rows_rise f s few first end = rising_gather ◌<◌ (λ i. entries_of f s (through_row f s i)) end each across first
  where
    each : (i : ℕ) → Rising ◌<◌ (entries_of f s (through_row f s i))
    each i = rw (row_entries f s i) (rising_chosen ◌<◌ (λ j. may_pierce f s i j && is_pierced f s i j) (entry_of i) 0 (triangle_count s) (λ j k h. omega arith))

    entry_from : (i a : ℕ) → Memᴰ a (entries_of f s (through_row f s i)) → (j : ℕ) × (j < triangle_count s) × (a ≡ entry_of i j)
    entry_from i a m =
        let n : Memᴰ a (chosen (λ j. may_pierce f s i j && is_pierced f s i j) (entry_of i) 0 (triangle_count s)) =
        subst (λ (l : List ℕ). Memᴰ a l) (row_entries f s i) m in
        let (j, _, there, _, same) = (chosen_members (λ j. may_pierce f s i j && is_pierced f s i j) (entry_of i) 0 (triangle_count s) a).0 n in
        (j, there, same)

    across : (i k a b : ℕ) → i < k → Memᴰ a (entries_of f s (through_row f s i)) → Memᴰ b (entries_of f s (through_row f s k)) → a < b
    across i k a b h m n =
        let (j, there, same) = entry_from i a m in
        let (j', _, same') = entry_from k b n in
        omega arith

pub entries_rise : (f : Frame) (s : Scene) → triangle_count s ≤ 4_294_967_296 → (first end : ℕ) (bs : List Bool)
    → AllPierced f s (through_rows f s first end) bs → Rising ◌<◌ (map through_number (yes_of bs (through_rows f s first end)))
entries_rise f s few first end bs all =
    rw (one_answers f s (through_rows f s first end) bs all, ← rows_entries f s first end) (rows_rise f s few first end)

-- all rows: an edge and a triangle without a shared vertex are listed exactly when the one is through the other
pub all_exactly : (f : Frame) (s : Scene) (bs : List Bool) → AllPierced f s (through_rows f s 0 (edge_count s)) bs → (i j : ℕ) → i < edge_count s
    → j < triangle_count s → end_is_corner s i j ≡ false → Memᴰ (through i j) (yes_of bs (through_rows f s 0 (edge_count s))) ↔ Pierced s f i j
all_exactly f s bs all i j h k apart = listed_exactly f s 0 (edge_count s) bs all i j (omega arith) h k apart
