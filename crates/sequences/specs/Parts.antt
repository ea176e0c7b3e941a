-- Laws of take, drop, ++ and set that lib.ListN and lib.Seq lack, at i + 1 as code writes it, and the part of a list that stands between two places.
use Rattle.std.specs.Prelude.{List, [], ◌∷◌, ◌++◌, ◌≢◌, ◌≡◌, refl, ℕ, ◌+◌, ◌-◌, ◌≤◌, ◌<◌, length, take, drop, get_or, set}
use Rattle.std.proofs.Common.{sym, ap, ◌∙◌, suc-ne-zero, add-one, arith, length-drop, take-append-drop, take-suc, drop-cons, take-suc-set, drop-set-lt, drop-drop, take-take, lt-length-set, get_or-set_same}
use Rattle.std.proofs.Math.Nat.{suc_inj}

module _ {ℓ} {A : Type ℓ} where
  -- ---- one element more, at i + 1

  pub take_next : (l : List A) (i : ℕ) (d : A) → i < length l → take (i + 1) l ≡ take i l ++ (get_or l i d ∷ [])
  take_next l i d h = rw (add-one, take-suc l i d)

  pub drop_next : (l : List A) (i : ℕ) (d : A) → i < length l → drop i l ≡ get_or l i d ∷ drop (i + 1) l
  drop_next l i d h = rw (add-one, drop-cons l i d)

  pub take_next_set : (l : List A) (i : ℕ) (a : A) → i < length l → take (i + 1) (set l i a) ≡ take i l ++ (a ∷ [])
  take_next_set l i a h = rw (add-one, take-suc-set l i a)

  pub drop_next_set : (l : List A) (i : ℕ) (a : A) → drop (i + 1) (set l i a) ≡ drop (i + 1) l
  drop_next_set l i a = drop-set-lt (i + 1) l i a (omega arith)

  -- ---- nothing, and something left

  pub none_of : (l : List A) → length l ≡ 0 → l ≡ []
  none_of [] e = refl
  none_of (a ∷ l) e = absurd (omega arith)

  pub some_left : (l : List A) (n : ℕ) → n < length l → drop n l ≢ []
  some_left l n h e = omega (arith, simp length-drop at (ap length e))

  -- ---- two cuts of one list at the same place

  pub append_split : (p q : List A) {r s : List A} → length p ≡ length q → p ++ r ≡ q ++ s → (p ≡ q) × (r ≡ s)
  append_split [] [] e h = (refl, h)
  append_split [] (y ∷ q) e h = absurd (suc-ne-zero (length q) (sym e))
  append_split (x ∷ p) [] e h = absurd (suc-ne-zero (length p) e)
  append_split (x ∷ p) (y ∷ q) {r} {s} e h =
      let both : (p ≡ q) × (r ≡ s) = append_split p q (suc_inj e) (cc) in
      let head : x ≡ y = cc in
      (λ i. head i ∷ both.0 i, both.1)

  -- a list is its two parts
  pub parts_unique : (n : ℕ) (l m : List A) → take n l ≡ take n m → drop n l ≡ drop n m → l ≡ m
  parts_unique n l m t d = cc (take-append-drop n l, take-append-drop n m)

  -- lists that agree up to a place agree up to each earlier one, and those that agree from a place on agree from each later one
  pub take_less : (n m : ℕ) (l k : List A) → n ≤ m → take m l ≡ take m k → take n l ≡ take n k
  take_less n m l k h e = cc (take-take n m l h, take-take n m k h)

  pub drop_more : (n m : ℕ) (l k : List A) → m ≤ n → drop m l ≡ drop m k → drop n l ≡ drop n k
  drop_more n m l k h e =
      let sum : m + (n - m) ≡ n = omega arith in
      cc (drop-drop (n - m) m l, drop-drop (n - m) m k)

  -- a store, seen from its own place
  pub drop_set_here : (l : List A) (i : ℕ) (a : A) → i < length l → drop i (set l i a) ≡ a ∷ drop (i + 1) l
  drop_set_here l i a h = drop_next (set l i a) i a (lt-length-set l i a h) ∙ cc (get_or-set_same l i a a h, drop_next_set l i a)
