-- Lists made index by index. A loop over the index has done a front part of such a list and has the rest before it.
use mathlib.Core.List.Memᴰ
use mathlib.Core.List.{List, [], ◌++◌, append_assoc, append-nil, Memᴰ}
use Rattle.std.specs.Prelude.{◌⊎◌, ◌↔◌, ◌≡◌, ℕ, suc, ◌+◌, ◌-◌, ◌*◌, ◌≤◌, ◌<◌, length}
use Rattle.std.proofs.Common.{inl, inr, ⊎_elim, ap, ◌∙◌, subst, le_refl, le_trans, not-le_of_lt, arith, length-append}
use Rattle.sequences.specs.Range.{le_or_lt, towards, over, over_none, over_first}

-- the sum of f i, f (i + 1), … up to and without f n
unfoldable pub sum : (ℕ → ℕ) → ℕ → ℕ → ℕ
unfolding over
sum f i n = over (λ j s. f j + s) 0 i n

pub sum_none : (f : ℕ → ℕ) (i n : ℕ) → n ≤ i → sum f i n ≡ 0
unfolding sum
sum_none f i n h = over_none (λ j s. f j + s) 0 i n h

pub sum_first : (f : ℕ → ℕ) (i n : ℕ) → i < n → sum f i n ≡ f i + sum f (i + 1) n
unfolding sum
sum_first f i n h = over_first (λ j s. f j + s) 0 i n h

module _ {ℓ} {A : Type ℓ} where
  -- f i, f (i + 1), … up to and without f n, one behind the other
  unfoldable pub gather : (ℕ → List A) → ℕ → ℕ → List A
  unfolding over
  gather f i n = over (λ j l. f j ++ l) [] i n

  pub gather_none : (f : ℕ → List A) (i n : ℕ) → n ≤ i → gather f i n ≡ []
  unfolding gather
  gather_none f i n h = over_none (λ j l. f j ++ l) [] i n h

  pub gather_first : (f : ℕ → List A) (i n : ℕ) → i < n → gather f i n ≡ f i ++ gather f (i + 1) n
  unfolding gather
  gather_first f i n h = over_first (λ j l. f j ++ l) [] i n h

  -- cut at an index between
  pub gather_cut : (f : ℕ → List A) (i k n : ℕ) → i ≤ k → k ≤ n → gather f i n ≡ gather f i k ++ gather f k n
  gather_cut f i k n h l =
      towards k (λ i. i ≤ k → gather f i n ≡ gather f i k ++ gather f k n)
      (λ i past le. let here : i ≡ k = omega arith in cc (gather_none f i k past))
      (λ i lt next le. cc (gather_first f i n (omega arith), gather_first f i k lt, next (omega arith), append_assoc (f i) (gather f (i + 1) k) (gather f k n)))
      i h

  -- one index more at the end
  pub gather_last : (f : ℕ → List A) (i n : ℕ) → i ≤ n → gather f i (n + 1) ≡ gather f i n ++ f n
  gather_last f i n h =
      gather_cut f i n (n + 1) h (omega arith)
      ∙ ap (λ (l : List A). gather f i n ++ l)
      (gather_first f n (n + 1) (omega arith) ∙ ap (λ (l : List A). f n ++ l) (gather_none f (n + 1) (n + 1) (omega arith)) ∙ append-nil (f n))

  -- functions that agree between the bounds gather the same
  pub gather_same : (f g : ℕ → List A) (i n : ℕ) → ((j : ℕ) → i ≤ j → j < n → f j ≡ g j) → gather f i n ≡ gather g i n
  gather_same f g i n =
      towards n (λ i. ((j : ℕ) → i ≤ j → j < n → f j ≡ g j) → gather f i n ≡ gather g i n)
      (λ i past e. cc (gather_none f i n past, gather_none g i n past))
      (λ i lt next e.
      cc (gather_first f i n lt, gather_first g i n lt, e i (omega arith) lt, next (λ j a b. e j (omega arith) b)))
      i

  -- ---- how many: counted index by index

  pub gather_length : (f : ℕ → List A) (i n : ℕ) → length (gather f i n) ≡ sum (λ j. length (f j)) i n
  gather_length f i n =
      towards n (λ i. length (gather f i n) ≡ sum (λ j. length (f j)) i n)
      (λ i past. cc (gather_none f i n past, sum_none (λ j. length (f j)) i n past))
      (λ i lt next.
      cc (gather_first f i n lt, sum_first (λ j. length (f j)) i n lt, next, length-append (f i) (gather f (i + 1) n)))
      i

  -- where each has at most b elements
  pub gather_short : (f : ℕ → List A) (b i n : ℕ) → ((j : ℕ) → i ≤ j → j < n → length (f j) ≤ b) → length (gather f i n) ≤ (n - i) * b
  gather_short f b i n =
      towards n (λ i. ((j : ℕ) → i ≤ j → j < n → length (f j) ≤ b) → length (gather f i n) ≤ (n - i) * b)
      (λ i past h. rw (gather_none f i n past) (omega arith))
      (λ i lt next h.
      let more : n - i ≡ suc (n - (i + 1)) = omega arith in
      rw (gather_first f i n lt, length-append, more) (omega (arith, next (λ j a c. h j (omega arith) c), h i (omega arith) lt)))
      i

  -- ---- what stands in it

  pub gather_has : (f : ℕ → List A) (n j : ℕ) {a : A} → j < n → Memᴰ a (f j) → (i : ℕ) → i ≤ j → Memᴰ a (gather f i n)
  gather_has f n j {a} below m =
      towards n (λ i. i ≤ j → Memᴰ a (gather f i n))
      (λ i past le. absurd (not-le_of_lt below (le_trans past le)))
      (λ i lt next le. rw (gather_first f i n lt) (here_or_later i (le_or_lt j i) next le))
    where
      here_or_later : (i : ℕ) → (j ≤ i) ⊎ (i < j) → (i + 1 ≤ j → Memᴰ a (gather f (i + 1) n)) → i ≤ j
          → Memᴰ a (f i ++ gather f (i + 1) n)
      here_or_later i (inl h) next le =
          let same : j ≡ i = omega arith in
          Memᴰ.append_left (gather f (i + 1) n) (subst (λ (k : ℕ). Memᴰ a (f k)) same m)
      here_or_later i (inr h) next le = Memᴰ.append_right (f i) (next (omega arith))

  pub gather_from : (f : ℕ → List A) (n : ℕ) {a : A} (i : ℕ) → Memᴰ a (gather f i n)
      → (j : ℕ) × (i ≤ j) × (j < n) × Memᴰ a (f j)
  gather_from f n {a} =
      towards n (λ i. Memᴰ a (gather f i n) → (j : ℕ) × (i ≤ j) × (j < n) × Memᴰ a (f j))
      (λ i past m. absurd (Memᴰ.not-nil (rw (gather_none f i n past) at m)))
      (λ i lt next m.
      ⊎_elim
      (λ here. (i, le_refl i, lt, here))
      (λ later. let (j, a, b, c) = next later in (j, omega arith, b, c))
      (Memᴰ.append_cases (f i) (rw (gather_first f i n lt) at m)))

  -- an element stands in it exactly when it stands in one of its parts
  pub gather_members : (f : ℕ → List A) (n : ℕ) (a : A)
      → Memᴰ a (gather f 0 n) ↔ ((j : ℕ) × (j < n) × Memᴰ a (f j))
  gather_members f n a = (
    λ m. let (j, _, b, c) = gather_from f n 0 m in (j, b, c),
    λ p. gather_has f n p.0 p.1 p.2 0 (omega arith),
  )
