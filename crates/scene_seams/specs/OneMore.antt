-- Seams one by one: whether one more breaks the rules, where those before it do not.
use Prim.Native.Nat.{ℕ, zero, suc, pred, ◌+◌, ◌*◌, ◌/◌, ◌≤◌, ◌<◌}
use Rattle.std.specs.Prelude.{Bool, ◌||◌, ◌&&◌, List, [], ◌∷◌, ◌++◌, ◌≡◌, length, get_or}
use Rattle.std.proofs.Math.Bool.{true, false}
use Rattle.std.proofs.Common.{true≢false, ◌∙◌, ap, eq-or-lt_of_le, le_of_suc-le-suc, length-append}
use Rattle.std.proofs.Math.Logic.{⊎_elim}
use Rattle.std.proofs.Math.Path.{refl, sym}
use native.Mathlib.Omega.{arith}
use Rattle.std.proofs.Math.Dec.{leb, ltb, eqb}
use Rattle.std.proofs.Math.ListN.{get_or-append}
use borrow.Author.Tests.{ltb-true, ltb-false, leb-true, leb-false, lt-ltb, le-ltb, le-leb, lt-leb, ne_eqb}
use Rattle.meaning.specs.Scene.{Scene, scene_of, seam_count, sewn, onto, replaced, comes_apart, broken_seam, some_below}
use Rattle.answers.specs.Below.{or_left, or_rest, some_alike, none_passes, none_below, some_passes, found_below}

-- the lowest number that the next first vertex may have
unfoldable pub least_of : (ℕ → ℕ) → ℕ → ℕ
least_of a zero = 0
least_of a (suc n) = suc (a n)

-- a seam's first vertex is a k and its second b k; `apart` says of two vertices that they are not in one place
module _ (apart : ℕ → ℕ → Bool) where
  module _ (a b : ℕ → ℕ) where
    -- seam m of n is wrong; some seam of n is
    abbrev pub wrong : ℕ → ℕ → Bool
    wrong n m =
        (ltb 0 m && leb (a m) (a (pred m))) || leb (a m) (b m) || some_below n (λ k. eqb (a k) (b m)) || apart (a m) (b m)

    abbrev pub broken : ℕ → Bool
    broken n = some_below n (wrong n)

    -- the n-th breaks the rules after n that do not
    abbrev pub breaks : ℕ → Bool
    breaks n = ltb (a n) (least_of a n) || leb (a n) (b n) || some_below n (λ k. eqb (a k) (b n)) || apart (a n) (b n)

    not_rising : (n : ℕ) → ltb 0 n && leb (a n) (a (pred n)) ≡ ltb (a n) (least_of a n)
    unfolding least_of
    not_rising zero = sym (le-ltb (a 0) 0 (omega arith))
    not_rising (suc n) = rw (lt-ltb 0 (suc n) (omega arith)) (by_order (leb (a (suc n)) (a n)) refl)
      where
        by_order : (t : Bool) → leb (a (suc n)) (a n) ≡ t → t ≡ ltb (a (suc n)) (suc (a n))
        by_order true e = sym (lt-ltb (a (suc n)) (suc (a n)) (omega (arith, leb-true (a (suc n)) (a n) e)))
        by_order false e = sym (le-ltb (a (suc n)) (suc (a n)) (omega (arith, leb-false (a (suc n)) (a n) e)))

    wider : (r l s e p : Bool) → r || l || s || p ≡ true → r || l || (s || e) || p ≡ true
    wider true l s e p h = refl
    wider false true s e p h = refl
    wider false false true e p h = refl
    wider false false false true p h = refl
    wider false false false false p h = h

    none_holds : (r l s p : Bool) → r || l || s || p ≡ false → (r ≡ false) × (l ≡ false) × (s ≡ false) × (p ≡ false)
    none_holds true l s p h = absurd (true≢false h)
    none_holds false true s p h = absurd (true≢false h)
    none_holds false false true p h = absurd (true≢false h)
    none_holds false false false p h = (refl, refl, refl, h)

    -- a seam that is wrong stays so
    stays_wrong : (n m : ℕ) → wrong n m ≡ true → wrong (suc n) m ≡ true
    unfolding some_below
    stays_wrong n m h =
        wider (ltb 0 m && leb (a m) (a (pred m))) (leb (a m) (b m)) (some_below n (λ k. eqb (a k) (b m))) (eqb (a n) (b m)) (apart (a m) (b m)) h

    pub stays_broken : (n : ℕ) → broken n ≡ true → broken (suc n) ≡ true
    stays_broken n h =
        let f = found_below (wrong n) n h in
        some_passes (wrong (suc n)) (suc n) f.which (omega (arith, f.there)) (stays_wrong n f.which f.passes)

    -- none of n is wrong: the first vertices rise, and each second vertex is below its first
    module _ (n : ℕ) (whole : broken n ≡ false) where
      fine : (m : ℕ) → m < n → wrong n m ≡ false
      fine m h = none_passes (wrong n) n whole m h

      each : (m : ℕ) → m < n → (ltb 0 m && leb (a m) (a (pred m)) ≡ false) × (leb (a m) (b m) ≡ false) × (some_below n (λ k. eqb (a k) (b m)) ≡ false) × (apart (a m) (b m) ≡ false)
      each m h = none_holds (ltb 0 m && leb (a m) (a (pred m))) (leb (a m) (b m)) (some_below n (λ k. eqb (a k) (b m))) (apart (a m) (b m)) (fine m h)

      pub second_lower : (m : ℕ) → m < n → b m < a m
      second_lower m h = leb-false (a m) (b m) (each m h).1

      rises : (m : ℕ) → suc m < n → a m < a (suc m)
      rises m h =
          let r : ltb 0 (suc m) && leb (a (suc m)) (a m) ≡ false = (each (suc m) h).0 in
          leb-false (a (suc m)) (a m) (rw (lt-ltb 0 (suc m) (omega arith)) at r)

      -- every first vertex is below the least that may come
      pub below_least : (m : ℕ) → m < n → a m < least_of a n
      unfolding least_of
      below_least m h = from n (omega arith) h
        where
          from : (k : ℕ) → k ≤ n → m < k → a m < least_of a k
          from zero l h = absurd (omega arith)
          from (suc zero) l h = let e : m ≡ 0 = omega arith in rw e (omega arith)
          from (suc (suc k)) l h =
              ⊎_elim (λ e. rw e (omega arith))
              (λ g. omega (arith, from (suc k) (omega arith) g, rises k (omega arith)))
              (eq-or-lt_of_le (le_of_suc-le-suc h))

      pub one_more : broken (suc n) ≡ breaks n
      unfolding some_below
      one_more = by_case (breaks n) refl
        where
          last : wrong (suc n) n ≡ ltb (a n) (least_of a n) || leb (a n) (b n) || (some_below n (λ k. eqb (a k) (b n)) || eqb (a n) (b n)) || apart (a n) (b n)
          last = rw (not_rising n)

          narrow : (r l s e p : Bool) → r || l || s || p ≡ false → e ≡ false → r || l || (s || e) || p ≡ false
          narrow true l s e p h k = h
          narrow false true s e p h k = h
          narrow false false true e p h k = h
          narrow false false false e p h k = rw k h

          by_case : (t : Bool) → breaks n ≡ t → broken (suc n) ≡ t
          by_case true e =
              some_passes (wrong (suc n)) (suc n) n (omega arith) (last ∙ wider (ltb (a n) (least_of a n)) (leb (a n) (b n)) (some_below n (λ k. eqb (a k) (b n))) (eqb (a n) (b n)) (apart (a n) (b n)) e)
          by_case false e =
              let parts = none_holds (ltb (a n) (least_of a n)) (leb (a n) (b n)) (some_below n (λ k. eqb (a k) (b n))) (apart (a n) (b n)) e in
              let low : b n < a n = leb-false (a n) (b n) parts.1 in
              let least : least_of a n ≤ a n = ltb-false (a n) (least_of a n) parts.0 in
              let here : wrong (suc n) n ≡ false =
              last ∙ narrow (ltb (a n) (least_of a n)) (leb (a n) (b n)) (some_below n (λ k. eqb (a k) (b n))) (eqb (a n) (b n)) (apart (a n) (b n)) e (ne_eqb (a n) (b n) (λ q. omega arith)) in
              let earlier : (m : ℕ) → m < n → wrong (suc n) m ≡ false =
              λ m h. narrow (ltb 0 m && leb (a m) (a (pred m))) (leb (a m) (b m)) (some_below n (λ k. eqb (a k) (b m))) (eqb (a n) (b m)) (apart (a m) (b m)) (fine m h)
              (ne_eqb (a n) (b m) (λ q. omega (arith, second_lower m h, below_least m h))) in
              none_below (wrong (suc n)) (suc n)
              (λ m h. ⊎_elim (λ q. rw q here) (λ g. earlier m g) (eq-or-lt_of_le (le_of_suc-le-suc h)))

  -- only the first n seams are looked at
  pub broken_alike : (a b c d : ℕ → ℕ) (n : ℕ) → ((m : ℕ) → m < n → a m ≡ c m) → ((m : ℕ) → m < n → b m ≡ d m) → broken a b n ≡ broken c d n
  broken_alike a b c d n ac bd =
      some_alike (wrong a b n) (wrong c d n) n
      (λ m h. rw (ac m h, bd m h, ac (pred m) (omega arith), some_alike (λ k. eqb (a k) (d m)) (λ k. eqb (c k) (d m)) n (λ k g. rw (ac k g))))
