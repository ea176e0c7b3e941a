-- The entries of the pierced ones of a list of edges and triangles: of none, of one, of lists joined, of rows.
use Rattle.std.specs.Prelude.{ℕ, ◌+◌, ◌≤◌, ◌<◌, Bool, ◌&&◌, ◌≡◌, length}
use native.Mathlib.Omega.{arith}
use Rattle.std.proofs.Math.Bool.{true, false}
use mathlib.Core.List.{List, [], ◌∷◌, ◌++◌, map}
use Rattle.std.proofs.Math.Path.{refl, sym, ap}
use Rattle.std.proofs.Common.{◌∙◌}
use Rattle.std.proofs.lemmas.List.{length-map}
use Rattle.sequences.specs.Chosen.{one, chosen, chosen_short}
use Rattle.sequences.specs.Gather.{gather, gather_none, gather_first, gather_same, gather_short}
use Rattle.sequences.specs.Pick.{pick}
use Rattle.sequences.specs.Range.{towards}
use Rattle.meaning.specs.Scene.{Scene, triangle_count}
use Rattle.meaning.specs.PiercedRows.{Through, through_number, may_pierce, through_row, through_rows, yes_of}
use Rattle.meaning.specs.declared.Frame.{Frame}
use Rattle.through_laws.specs.Deciding.{is_pierced, answers_of}

abbrev pub through : ℕ → ℕ → Through
through i j = record { edge = i; triangle = j }

abbrev pub entry_of : ℕ → ℕ → ℕ
entry_of i j = through_number (through i j)

module _ (f : Frame) (s : Scene) where
  abbrev pub pierced_of : List Through → List Through
  pierced_of ts = yes_of (answers_of f s ts) ts

  abbrev pub entries_of : List Through → List ℕ
  entries_of ts = map through_number (pierced_of ts)

  abbrev pub count_of : List Through → ℕ
  count_of ts = length (yes_of (answers_of f s ts) (answers_of f s ts))

  -- as many as answers that are yes
  yes_long : {A B : Type 0} (bs : List Bool) (l : List A) (k : List B) → length l ≡ length k → length (yes_of bs l) ≡ length (yes_of bs k)
  unfolding yes_of
  yes_long [] l k e = refl
  yes_long (b ∷ bs) [] [] e = refl
  yes_long (b ∷ bs) [] (y ∷ k) e = absurd (omega arith)
  yes_long (b ∷ bs) (x ∷ l) [] e = absurd (omega arith)
  yes_long (true ∷ bs) (x ∷ l) (y ∷ k) e = let more = yes_long bs l k (omega arith) in omega arith
  yes_long (false ∷ bs) (x ∷ l) (y ∷ k) e = yes_long bs l k (omega arith)

  pub entries_count : (ts : List Through) → length (entries_of ts) ≡ count_of ts
  entries_count ts =
      length-map (pierced_of ts) through_number
      ∙ yes_long (answers_of f s ts) ts (answers_of f s ts) (sym (length-map ts (λ (t : Through). is_pierced f s t.edge t.triangle)))

  entries_next : (t : Through) (ts : List Through) → entries_of (t ∷ ts) ≡ one (is_pierced f s t.edge t.triangle) (through_number t) ++ entries_of ts
  unfolding yes_of
  entries_next t ts = go (is_pierced f s t.edge t.triangle)
    where
      go : (b : Bool) → map through_number (pick b (t ∷ pierced_of ts) (pierced_of ts)) ≡ one b (through_number t) ++ entries_of ts
      go true = refl
      go false = refl

  entries_append : (ts us : List Through) → entries_of (ts ++ us) ≡ entries_of ts ++ entries_of us
  unfolding yes_of
  entries_append [] us = refl
  entries_append (t ∷ ts) us =
      entries_next t (ts ++ us)
      ∙ ap (λ (l : List ℕ). one (is_pierced f s t.edge t.triangle) (through_number t) ++ l) (entries_append ts us)
      ∙ sym (append_one (is_pierced f s t.edge t.triangle))
      ∙ ap (λ (l : List ℕ). l ++ entries_of us) (sym (entries_next t ts))
    where
      append_one : (b : Bool) → (one b (through_number t) ++ entries_of ts) ++ entries_of us ≡ one b (through_number t) ++ (entries_of ts ++ entries_of us)
      append_one true = refl
      append_one false = refl

  -- one that is asked, or none
  entries_one : (b : Bool) (i j : ℕ) → entries_of (one b (through i j)) ≡ one (b && is_pierced f s i j) (entry_of i j)
  unfolding yes_of
  entries_one false i j = refl
  entries_one true i j = go (is_pierced f s i j)
    where
      go : (b : Bool) → map through_number (pick b (through i j ∷ []) []) ≡ one b (entry_of i j)
      go true = refl
      go false = refl

  pub entries_gather : (h : ℕ → List Through) (n a : ℕ) → entries_of (gather h a n) ≡ gather (λ i. entries_of (h i)) a n
  unfolding yes_of
  entries_gather h n =
      towards n (λ a. entries_of (gather h a n) ≡ gather (λ i. entries_of (h i)) a n)
      (λ a past. ap entries_of (gather_none h a n past) ∙ sym (gather_none (λ i. entries_of (h i)) a n past))
      (λ a lt next.
      ap entries_of (gather_first h a n lt)
      ∙ entries_append (h a) (gather h (a + 1) n)
      ∙ ap (λ (l : List ℕ). entries_of (h a) ++ l) next
      ∙ sym (gather_first (λ i. entries_of (h i)) a n lt))

  -- the entries of a row: of those that may pierce those that do
  pub row_entries : (i : ℕ) → entries_of (through_row f s i) ≡ chosen (λ j. may_pierce f s i j && is_pierced f s i j) (entry_of i) 0 (triangle_count s)
  row_entries i =
      entries_gather (λ j. one (may_pierce f s i j) (through i j)) (triangle_count s) 0
      ∙ gather_same
      (λ j. entries_of (one (may_pierce f s i j) (through i j)))
      (λ j. one (may_pierce f s i j && is_pierced f s i j) (entry_of i j))
      0 (triangle_count s)
      (λ j a b. entries_one (may_pierce f s i j) i j)

  pub row_short : (i : ℕ) → length (entries_of (through_row f s i)) ≤ triangle_count s
  row_short i =
      let short = chosen_short (λ j. may_pierce f s i j && is_pierced f s i j) (entry_of i) 0 (triangle_count s) in
      omega (arith, ap length (row_entries i))

  -- and of rows in turn
  abbrev pub rows_of : ℕ → ℕ → List ℕ
  rows_of first end = gather (λ i. entries_of (through_row f s i)) first end

  pub rows_entries : (first end : ℕ) → rows_of first end ≡ entries_of (through_rows f s first end)
  rows_entries first end = sym (entries_gather (through_row f s) end first)

  -- fewer than 2^62 in a mesh
  pub rows_few : (first end : ℕ) → triangle_count s ≤ 1_073_741_824 → end ≤ 1_073_741_824 → length (rows_of first end) < 4_611_686_018_427_387_904
  rows_few first end few low =
      let short = gather_short (λ i. entries_of (through_row f s i)) 1_073_741_824 first end (λ i a b. omega (arith, row_short i)) in
      omega arith
