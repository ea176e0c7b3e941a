-- Lists in which every earlier element is smaller. Under a relation by which nothing is below itself each element stands once, and
-- such a list is fixed by what stands in it.
use Rattle.std.specs.Prelude.{Bool, ◌↔◌, ◌≡◌, length, get_or}
use mathlib.Core.List.Memᴰ
use mathlib.Core.List.{List, [], ◌∷◌, ◌++◌, Memᴰ}
use Rattle.std.proofs.Math.Logic.{⊎_elim}
use Rattle.std.proofs.Math.Path.{refl, sym}
use Rattle.std.proofs.Common.{◌∙◌, subst, le_of_suc-le-suc, not-suc-le-zero, arith}
use Prim.Native.Nat.{ℕ, zero, suc, ◌+◌, ◌<◌}
use Rattle.sequences.specs.Chosen.{one, one_from, chosen, chosen_members, row}
use Rattle.sequences.specs.Gather.{gather, gather_none, gather_first, gather_from}
use Rattle.sequences.specs.Pick.{pick_has}
use Rattle.sequences.specs.Range.{le_or_lt, towards}

module _ {ℓ} {A : Type ℓ} where
  -- the element at a place stands in the list
  pub at_place : (l : List A) (i : ℕ) (d : A) → i < length l → Memᴰ (get_or l i d) l
  at_place [] i d h = absurd (not-suc-le-zero h)
  at_place (x ∷ l) zero d h = Memᴰ.head refl
  at_place (x ∷ l) (suc i) d h = Memᴰ.tail (at_place l i d (le_of_suc-le-suc h))

  module _ {κ} (R : A → A → Type κ) where
    -- each element is below all that come after it
    unfoldable pub Rising : List A → Type (ℓ ⊔ κ)
    Rising [] = Unit {ℓ ⊔ κ}
    Rising (a ∷ l) = ((b : A) → Memᴰ b l → R a b) × Rising l

    -- the same, by places
    pub rising_places : (l : List A) → Rising l → (i j : ℕ) (d : A) → i < j → j < length l → R (get_or l i d) (get_or l j d)
    unfolding Rising
    rising_places [] r i j d h k = absurd (not-suc-le-zero k)
    rising_places (a ∷ l) r zero zero d h k = absurd (not-suc-le-zero h)
    rising_places (a ∷ l) r zero (suc j) d h k = r.0 (get_or l j d) (at_place l j d (le_of_suc-le-suc k))
    rising_places (a ∷ l) r (suc i) zero d h k = absurd (not-suc-le-zero h)
    rising_places (a ∷ l) r (suc i) (suc j) d h k = rising_places l r.1 i j d (le_of_suc-le-suc h) (le_of_suc-le-suc k)

    pub rising_append : (l k : List A) → Rising l → Rising k → ((a b : A) → Memᴰ a l → Memᴰ b k → R a b) → Rising (l ++ k)
    unfolding Rising
    rising_append [] k r s h = s
    rising_append (a ∷ l) k r s h = (
      λ b m. ⊎_elim (λ p. r.0 b p) (λ q. h a b (Memᴰ.head refl) q) (Memᴰ.append_cases l m),
      rising_append l k r.1 s (λ x y p q. h x y (Memᴰ.tail p) q),
    )

    -- parts that rise, each below the later ones, make a whole that rises
    pub rising_gather : (f : ℕ → List A) (n : ℕ) → ((i : ℕ) → Rising (f i))
        → ((i j : ℕ) (a b : A) → i < j → Memᴰ a (f i) → Memᴰ b (f j) → R a b)
        → (i : ℕ) → Rising (gather f i n)
    unfolding Rising
    rising_gather f n each apart =
        towards n (λ i. Rising (gather f i n))
        (λ i past. rw (gather_none f i n past) tt)
        (λ i lt next.
        rw (gather_first f i n lt)
        (rising_append (f i) (gather f (i + 1) n) (each i) next
        (λ a b p q. let (j, u, v, w) = gather_from f n (i + 1) q in apart i j a b (omega arith) p w)))

    pub rising_chosen : (m : ℕ → Bool) (g : ℕ → A) (i n : ℕ) → ((j k : ℕ) → j < k → R (g j) (g k)) → Rising (chosen m g i n)
    unfolding Rising
    rising_chosen m g i n h =
        rising_gather (λ j. one (m j) (g j)) n
        (λ j. pick_has Rising (m j) (λ e. (λ b p. absurd (Memᴰ.not-nil p), tt)) (λ e. tt))
        (λ j k a b lt p q. rw ((one_from (m j) (g j) p).1, (one_from (m k) (g k) q).1) (h j k lt))
        i

    -- a table rises if its rows do and each row is below the later ones
    pub rising_table : (m : ℕ → ℕ → Bool) (g : ℕ → ℕ → A) (from : ℕ → ℕ) (k n : ℕ)
        → ((i j j' : ℕ) → j < j' → R (g i j) (g i j')) → ((i i' j j' : ℕ) → i < i' → R (g i j) (g i' j'))
        → Rising (gather (row m g from n) 0 k)
    rising_table m g from k n along down =
        rising_gather (row m g from n) k
        (λ i. rising_chosen (m i) (g i) (from i) n (along i))
        (λ i i' a b lt p q.
        let (j, _, _, _, e) = (chosen_members (m i) (g i) (from i) n a).0 p in
        let (j', _, _, _, e') = (chosen_members (m i') (g i') (from i') n b).0 q in
        rw (e, e') (down i i' j j' lt))
        0

    module _ (irreflexive : (a : A) → R a a → ⊥) where
      apart : (a b : A) → a ≡ b → R a b → ⊥
      apart a b e r = irreflexive a (subst (λ (x : A). R a x) (sym e) r)

      -- each element stands once
      pub rising_once : (l : List A) → Rising l → (i j : ℕ) (d : A) → i < length l → j < length l → get_or l i d ≡ get_or l j d → i ≡ j
      rising_once l r i j d h k e =
          ⊎_elim
          (λ p.
          ⊎_elim
          (λ q. omega arith)
          (λ q. absurd (apart (get_or l j d) (get_or l i d) (sym e) (rising_places l r j i d q h)))
          (le_or_lt i j))
          (λ p. absurd (apart (get_or l i d) (get_or l j d) e (rising_places l r i j d p k)))
          (le_or_lt j i)

      -- behind equal heads stands the same
      behind : (a b : A) (l k : List A) → a ≡ b → ((x : A) → Memᴰ x l → R a x)
          → ((x : A) → Memᴰ x (a ∷ l) → Memᴰ x (b ∷ k)) → (x : A) → Memᴰ x l → Memᴰ x k
      behind a b l k e above into x m =
          ⊎_elim
          (λ h. absurd (apart a x (e ∙ sym h) (above x m)))
          (λ n. n)
          (Memᴰ.cases_cons (into x (Memᴰ.tail m)))

      -- two rising lists in which the same stands are equal
      pub rising_unique : ((a b c : A) → R a b → R b c → R a c) → (l k : List A) → Rising l → Rising k
          → ((a : A) → Memᴰ a l ↔ Memᴰ a k) → l ≡ k
      unfolding Rising
      rising_unique trans [] [] r s same = refl
      rising_unique trans [] (b ∷ k) r s same = absurd (Memᴰ.not-nil ((same b).1 (Memᴰ.head refl)))
      rising_unique trans (a ∷ l) [] r s same = absurd (Memᴰ.not-nil ((same a).0 (Memᴰ.head refl)))
      rising_unique trans (a ∷ l) (b ∷ k) r s same =
          let heads : a ≡ b =
          ⊎_elim
          (λ e. e)
          (λ m.
          ⊎_elim
          (λ e. sym e)
          (λ n. absurd (irreflexive a (trans a b a (r.0 b n) (s.0 a m))))
          (Memᴰ.cases_cons ((same b).1 (Memᴰ.head refl))))
          (Memᴰ.cases_cons ((same a).0 (Memᴰ.head refl))) in
          let tails : l ≡ k =
          rising_unique trans l k r.1 s.1
          (λ x. (behind a b l k heads r.0 (λ y m. (same y).0 m) x, behind b a k l (sym heads) s.0 (λ y m. (same y).1 m) x)) in
          λ i. heads i ∷ tails i
