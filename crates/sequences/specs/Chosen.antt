-- Of the elements g i, g (i + 1), … those whose test holds, in order; and a table of them, row by row. A loop tests, counts and writes them one by one.
use Rattle.std.specs.Prelude.{Bool, true, false, ◌↔◌, ◌≡◌, refl, ℕ, ◌+◌, ◌-◌, ◌≤◌, ◌<◌, length}
use mathlib.Core.List.Memᴰ
use mathlib.Core.List.{List, [], ◌∷◌, ◌++◌, Memᴰ}
use Rattle.std.proofs.Common.{◌∙◌, mul-one, arith}
use Rattle.sequences.specs.Gather.{gather, gather_none, gather_first, gather_short, gather_has, gather_from, gather_members}
use Rattle.sequences.specs.Pick.{pick, pick_into}

module _ {ℓ} {A : Type ℓ} where
  -- the list of the one element a if its test holds, and else the empty list
  abbrev pub one : Bool → A → List A
  one t a = pick t (a ∷ []) []

  -- of g i, g (i + 1), … up to and without g n those whose test holds
  abbrev pub chosen : (ℕ → Bool) → (ℕ → A) → ℕ → ℕ → List A
  chosen m g i n = gather (λ j. one (m j) (g j)) i n

  pub one_has : (t : Bool) (a : A) {b : A} → t ≡ true → b ≡ a → Memᴰ b (one t a)
  one_has t a e same = rw e (Memᴰ.head same)

  pub one_from : (t : Bool) (a : A) {b : A} → Memᴰ b (one t a) → (t ≡ true) × (b ≡ a)
  one_from true a m = (refl, Memᴰ.eq_of_singleton m)
  one_from false a m = absurd (Memᴰ.not-nil m)

  one_short : (t : Bool) (a : A) → length (one t a) ≤ 1
  one_short true a = omega arith
  one_short false a = omega arith

  module _ (m : ℕ → Bool) (g : ℕ → A) (i n : ℕ) where
    pub chosen_none : n ≤ i → chosen m g i n ≡ []
    chosen_none h = gather_none (λ j. one (m j) (g j)) i n h

    pub chosen_first : i < n → chosen m g i n ≡ pick (m i) (g i ∷ chosen m g (i + 1) n) (chosen m g (i + 1) n)
    chosen_first h =
        gather_first (λ j. one (m j) (g j)) i n h
        ∙ pick_into (λ (l : List A). l ++ chosen m g (i + 1) n) (m i) (g i ∷ []) []

    pub chosen_took : i < n → m i ≡ true → chosen m g i n ≡ g i ∷ chosen m g (i + 1) n
    chosen_took h e = rw e at (chosen_first h)

    pub chosen_left : i < n → m i ≡ false → chosen m g i n ≡ chosen m g (i + 1) n
    chosen_left h e = rw e at (chosen_first h)

    pub chosen_short : length (chosen m g i n) ≤ n - i
    chosen_short =
        rw (mul-one (n - i)) at (gather_short (λ j. one (m j) (g j)) 1 i n (λ j a b. one_short (m j) (g j)))

    -- an element stands there exactly when it is one of them and its test holds
    pub chosen_members : (a : A) → Memᴰ a (chosen m g i n) ↔ ((j : ℕ) × (i ≤ j) × (j < n) × (m j ≡ true) × (a ≡ g j))
    chosen_members a = (
      λ h.
          let (j, p, q, r) = gather_from (λ j. one (m j) (g j)) n i h in
          let (e, same) = one_from (m j) (g j) r in
          (j, p, q, e, same),
      λ h. gather_has (λ j. one (m j) (g j)) n h.0 h.2 (one_has (m h.0) (g h.0) h.3 h.4) i h.1,
    )

  -- ---- row by row

  -- the row i: of the elements g i j, from its own first j on, those whose test holds
  abbrev pub row : (ℕ → ℕ → Bool) → (ℕ → ℕ → A) → (ℕ → ℕ) → ℕ → ℕ → List A
  row m g from n i = chosen (m i) (g i) (from i) n

  pub table_members : (m : ℕ → ℕ → Bool) (g : ℕ → ℕ → A) (from : ℕ → ℕ) (k n : ℕ) (a : A)
      → Memᴰ a (gather (row m g from n) 0 k)
      ↔ ((i : ℕ) × (j : ℕ) × (i < k) × (from i ≤ j) × (j < n) × (m i j ≡ true) × (a ≡ g i j))
  table_members m g from k n a = (
    λ h.
        let (i, p, q) = (gather_members (row m g from n) k a).0 h in
        let (j, u, v, e, same) = (chosen_members (m i) (g i) (from i) n a).0 q in
        (i, j, p, u, v, e, same),
    λ h.
        let (i, j, p, u, v, e, same) = h in
        (gather_members (row m g from n) k a).1 (i, p, (chosen_members (m i) (g i) (from i) n a).1 (j, u, v, e, same)),
  )
