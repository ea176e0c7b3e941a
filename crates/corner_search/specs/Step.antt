-- The laws of one step of the search, whichever simplex it tries. None of them looks into the weights.
use Rattle.std.specs.Prelude.{ℕ, zero, suc, ◌+◌, ◌*◌, ◌≤◌, ◌<◌, refl, ◌⊎◌, Bool, cond, List, [], ◌∷◌, T, ℤ, set}
use Rattle.std.proofs.Common.{eq-or-lt_of_le, sym, ◌∙◌, ap, subst, inl, inr, ⊎_elim, length-append, get_or-set_other}
use Rattle.std.proofs.Math.Decide.{dec_lt, ℕ_discrete}
use native.Mathlib.Omega.{arith}
use Rattle.std.proofs.Math.Path.{◌≡◌}
use Rattle.std.proofs.Math.Bool.{true, false}
use Rattle.corner_leaf.specs.declared.SixPoints.{SixPoints}
use Rattle.corner_leaf.specs.declared.Leaf.{Leaf}
use Rattle.corner_leaf.specs.declared.Leaf.TheVariants.{Yes, No, Open}
use Rattle.corner_laws.specs.Left.{fewer, without, still_out, now_out}
use Rattle.corner_laws.specs.Leave.{Leaves}
use Rattle.corner_leaf.specs.Points.{is_left, piece_at, TouchLeft, Timed, six_long}
use Rattle.corner_leaf.specs.Answer.{leaf_of}
use Rattle.corner_leaf.specs.Right.{LeafIs, leaf_is}
use Rattle.corner_search.specs.Says.{is_yes, NoneWithout, Says, touching, none, says_yes, says_no}

-- ---- what is left to try falls

unfoldable pub count : List Bool → ℕ
count [] = 0
count (true ∷ l) = suc (count l)
count (false ∷ l) = count l

-- twice the corners left, and one more where the other step has not handed over the same points
unfoldable pub to_try : List Bool → Bool → ℕ
to_try left tried = 2 * count left + cond tried 0 1

pub less : (left : List Bool) (i : ℕ) → is_left left i ≡ true → suc (count (set left i false)) ≡ count left
unfolding count
less [] i h = absurd (subst T (sym h) tt)
less (true ∷ l) zero h = refl
less (false ∷ l) zero h = absurd (subst T (sym h) tt)
less (true ∷ l) (suc i) h = ap suc (less l i h)
less (false ∷ l) (suc i) h = less l i h

pub falls_without : (left : List Bool) (i : ℕ) (tried : Bool) {t : ℕ} (l : List Bool) → to_try left tried ≡ t → l ≡ set left i false → is_left left i ≡ true → to_try l false < t
unfolding to_try
falls_without left i tried l e f h = rw f (omega (arith, less left i h))

pub falls_handed : (left : List Bool) (tried : Bool) {t : ℕ} → to_try left tried ≡ t → tried ≡ false → to_try left true < t
unfolding to_try
falls_handed left tried {t} e f = subst (λ n. to_try left true < n) (ap (to_try left) (sym f) ∙ e) (omega arith)

-- ---- a corner left out

out_set : (left : List Bool) (i j : ℕ) → is_left left j ≡ false → is_left (set left i false) j ≡ false
out_set [] i j h = refl
out_set (c ∷ l) zero zero h = refl
out_set (c ∷ l) zero (suc j) h = h
out_set (c ∷ l) (suc i) zero h = h
out_set (c ∷ l) (suc i) (suc j) h = out_set l i j h

pub set_out : (left : List Bool) (i j : ℕ) → is_left (set left i false) j ≡ false → without i (is_left left) j ≡ false
set_out left i j h = go (ℕ_discrete j i)
  where
    go : Dec (j ≡ i) → without i (is_left left) j ≡ false
    go (yes e) = rw e (now_out i (is_left left))
    go (no n) = still_out i (is_left left) j (sym (get_or-set_other left i j false false n) ∙ h)

module _ {ps : List ℤ} {six : SixPoints} (left : List Bool) where
  pub put_back : (i : ℕ) → TouchLeft ps six (set left i false) → TouchLeft ps six left
  put_back i t = record { weights = fewer (λ j k. out_set left i j) t.weights }

  pub more : {lo i : ℕ} → NoneWithout ps six left lo i → (is_left left i ≡ true → ¬ TouchLeft ps six (set left i false)) → NoneWithout ps six left lo (i + 1)
  more {lo} {i} h n = record { at = λ j l k. ⊎_elim (λ e. subst (λ m. is_left left m ≡ true → ¬ TouchLeft ps six (set left m false)) (sym e) n) (h.at j l) (split j k) }
    where
      split : (j : ℕ) → j < i + 1 → (j ≡ i) ⊎ (j < i)
      split j k = eq-or-lt_of_le (omega arith)

  -- one that is not left need not be tried
  pub not_left : (i : ℕ) → is_left left i ≡ false → is_left left i ≡ true → ¬ TouchLeft ps six (set left i false)
  not_left i e f = absurd (subst T (sym f ∙ e) tt)

  pub none_yet : (lo : ℕ) → NoneWithout ps six left lo lo
  none_yet lo = record { at = λ i l k. absurd (never i l k) }
    where
      never : (i : ℕ) → lo ≤ i → i < lo → ⊥
      never i l k = omega arith

-- every corner is the first simplex's or the second's
pub on_a_side : (m j : ℕ) → j < 6 → ((0 ≤ j) × (j < m)) ⊎ ((m ≤ j) × (j < 6))
on_a_side m j h = go (dec_lt j m)
  where
    go : Dec (j < m) → ((0 ≤ j) × (j < m)) ⊎ ((m ≤ j) × (j < 6))
    go (yes k) = inl (omega arith, k)
    go (no k) = inr (omega arith, h)

-- ---- what the other step said of the points without a corner

module _ {ps : List ℤ} {six : SixPoints} (left : List Bool) (i : ℕ) {l : List Bool} {lo hi : ℕ} {r : Bool} (e : l ≡ set left i false) (said : Says ps six l lo hi false r) where
  pub found : (lo' hi' : ℕ) (tried : Bool) → r ≡ true → Says ps six left lo' hi' tried true
  found lo' hi' tried k = touching (put_back left i (subst (TouchLeft ps six) e (says_yes (subst (Says ps six l lo hi false) k said))))

  pub not_found : r ≡ false → ¬ TouchLeft ps six (set left i false)
  not_found k t = (says_no (subst (Says ps six l lo hi false) k said)).0 refl (subst (TouchLeft ps six) (sym e) t)

-- ---- what the step says

module _ (ps : List ℤ) {six : SixPoints} (h : Timed six) (left : List Bool) where
  -- where the points left decide
  pub says_answer : (lo hi : ℕ) (tried : Bool) (r : Leaf) → r ≡ cond tried Open (leaf_of ps six left) → (r ≡ Yes) ⊎ (r ≡ No) → Says ps six left lo hi tried (is_yes r)
  unfolding LeafIs
  says_answer lo hi true r e d = absurd (⊎_elim (λ y. never_yes (sym y ∙ e)) (λ n. never_no (sym n ∙ e)) d)
    where
      never_yes : Yes ≡ Open → ⊥
      never_yes e = let x : ◌≡◌ {A = ℕ} 0 1 = cc in omega arith

      never_no : No ≡ Open → ⊥
      never_no e = let x : ◌≡◌ {A = ℕ} 0 1 = cc in omega arith
  says_answer lo hi false r e (inl y) = rw y (touching (subst (LeafIs ps six left) (sym e ∙ y) (leaf_is ps h left)))
  says_answer lo hi false r e (inr n) =
      let none = subst (LeafIs ps six left) (sym e ∙ n) (leaf_is ps h left) in
      rw n (Says.none (λ z. none) (record { at = λ i l k w t. none (put_back left i t) }))

  -- the other step has tried its corners: these were the last
  pub says_tried : (lo hi i : ℕ) (tried : Bool) → tried ≡ true → i ≡ hi → NoneWithout ps six left lo i → Says ps six left lo hi tried false
  says_tried lo hi i tried e k own = none (λ f. absurd (subst T (sym e ∙ f) tt)) (subst (NoneWithout ps six left lo) k own)

  -- the step's own corners are tried, and it hands the points over
  pub says_last : (lo hi i lo' hi' : ℕ) → ((j : ℕ) → j < 6 → ((lo ≤ j) × (j < hi)) ⊎ ((lo' ≤ j) × (j < hi'))) → (tried : Bool) → tried ≡ false → (o : Leaf) → o ≡ cond tried Open (leaf_of ps six left) → o ≡ Open → i ≡ hi → NoneWithout ps six left lo i → (r : Bool) → Says ps six left lo' hi' true r → Says ps six left lo hi tried r
  unfolding LeafIs
  says_last lo hi i lo' hi' c tried e o answer opened k own true said = touching (says_yes said)
  says_last lo hi i lo' hi' c tried e o answer opened k own false said = none (λ w t. gone (subst (LeafIs ps six left) is_open (leaf_is ps h left) t)) mine
    where
      others : NoneWithout ps six left lo' hi'
      others = (says_no said).1

      mine : NoneWithout ps six left lo hi
      mine = subst (NoneWithout ps six left lo) k own

      is_open : leaf_of ps six left ≡ Open
      is_open = ap (λ b. cond b Open (leaf_of ps six left)) (sym e) ∙ sym answer ∙ opened

      gone : Leaves (piece_at ps six).first (piece_at ps six).second (is_left left) → ⊥
      gone v =
          let t : TouchLeft ps six (set left v.place false) = record { weights = fewer (λ j k. set_out left v.place j) v.touch } in
          ⊎_elim (λ m. mine.at v.place m.0 m.1 v.was t) (λ m. others.at v.place m.0 m.1 v.was t)
          (c v.place (subst (λ n. v.place < n) (sym (length-append (piece_at ps six).first (piece_at ps six).second) ∙ six_long ps six) v.there))
