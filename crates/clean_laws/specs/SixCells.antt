-- A moving edge and a moving triangle in general position: if no end touches the triangle in any piece, and the edge touches no side of it in any piece,
-- then the edge is through the triangle at the start exactly when it is at the end. Each of the six cells has an even number of borders; the faces
-- between two cells are borders of both or of neither, the pieces of ends and sides of none; the start and the end are left.
use Prim.Native.Nat.{ℕ, zero, suc, ◌+◌, ◌<◌}
use Rattle.std.proofs.Common.{arith, ◌∙◌, true≢false, ltb-true}
use Rattle.std.specs.Prelude.{◌≡◌, ◌≢◌, ◌↔◌, Bool, true, false, List, [], ◌∷◌, ltb, ℤ, neg_ℤ, nat_abs, ◌+ℤ◌, ◌*ℤ◌, get_or, ◌≤ℤ◌, ◌<ℤ◌}
use Rattle.std.proofs.Math.Path.{refl, sym, ap, subst}
use Rattle.std.proofs.Math.Logic.{⊎_elim}
use Rattle.std.proofs.Math.IntN.{pos}
use Rattle.whole.specs.Vector.{Vector}
use Rattle.whole.specs.Quote.{quotes, ring}
use Rattle.whole.specs.Order.{ord, le, of_eq}
use Rattle.meaning.specs.Pieces.{Event}
use Rattle.meaning.specs.Equations.{one, total, Touch}
use Rattle.theory.specs.Differences.{at_start, at_end}
use Rattle.theory.specs.NoCrack as Faces
use Rattle.corner_laws.specs.Level.{read, balanced_by, sum_of}
use Rattle.corner_laws.specs.Left.{TouchIn, without, without_out}
use Rattle.clean_laws.specs.Borders.{Plane, Turning, In, here, there, every_in, all, all_in, odd, unlike, border, NoTwo, borders_even, same_test}
use Rattle.clean_laws.specs.Facets.{along, Kept, turn_of, turn_of_lem, facet_border}
use Rattle.clean_laws.specs.Dropped.{skip, skip_total, drop_first, drop_second, changed, behind, changed_first, changed_second}
use Rattle.clean_laws.specs.Cells.{edge_part, triangle_part, common, forms, start_left, end_left, start_along, end_along, cell_formed}

-- ---- one cell

-- its common factor is not 0, and of the points kept no two have their vectors on one line
pub record InGeneral (a b : Vector) (o0 o1 o2 o3 o4 : Event) (kept : List ℕ) : Type 0 where
  pub factor : common a b o0 o1 o2 o3 o4 ≢ pos 0
  pub no_two : NoTwo (turn_of (forms a b o0 o1 o2 o3 o4)) kept

record Another (turn : ℕ → ℕ → ℤ) (l : List ℕ) (k : ℕ) : Type 0 where
  m : ℕ
  stands : In m l
  apart : turn k m ≢ pos 0

another : {turn : ℕ → ℕ → ℤ} → Turning turn → (x y : ℕ) (l : List ℕ) → NoTwo turn (x ∷ y ∷ l) → {k : ℕ} → In k (x ∷ y ∷ l) → Another turn (x ∷ y ∷ l) k
another t x y l h here = record { m = y; stands = there here; apart = h.0.0 }
another {turn} t x y l h {k} (there i) = record {
  m = x;
  stands = here;
  apart = λ e. every_in (λ b. turn x b ≢ pos 0) (y ∷ l) h.0 i (t.back k x ∙ ap neg_ℤ e);
}

module _ (a b : Vector) (o0 o1 o2 o3 o4 : Event) (x y : ℕ) (l : List ℕ) (keeps : Kept (forms a b o0 o1 o2 o3 o4) 7 (x ∷ y ∷ l)) (general : InGeneral a b o0 o1 o2 o3 o4 (x ∷ y ∷ l)) where
  abbrev pub border_at : ℕ → Bool
  border_at k = border (turn_of (forms a b o0 o1 o2 o3 o4)) (x ∷ y ∷ l) k

  pub touched_at : (k : ℕ) → In k (x ∷ y ∷ l) → TouchIn (edge_part a b o0 o1 o2 o3 o4) (triangle_part a b o0 o1 o2 o3 o4) (without k (λ i. true)) ↔ (border_at k ≡ true)
  touched_at k i =
      let n = another (turn_of_lem (forms a b o0 o1 o2 o3 o4)) x y l general.no_two i in
      facet_border (cell_formed a b o0 o1 o2 o3 o4 general.factor) keeps k i n.m n.stands n.apart

  pub even_here : odd border_at (x ∷ y ∷ l) ≡ false
  even_here = borders_even (turn_of_lem (forms a b o0 o1 o2 o3 o4)) (x ∷ y ∷ l) general.no_two

-- ---- what is kept of each of the six cells: what is left out is a sum of what is kept

-- what is left to a base, where the times of the five are so
module _ (n0 n1 n2 n3 n4 : ℤ) (h0 : pos 0 ≤ℤ n0) (h1 : pos 0 ≤ℤ n1) (h2 : pos 0 ≤ℤ n2) (h3 : pos 0 ≤ℤ n3) (h4 : pos 0 ≤ℤ n4) where
  abbrev five : List ℤ
  five = n0 ∷ n1 ∷ n2 ∷ n3 ∷ n4 ∷ []

  end_one : pos 0 ≤ℤ end_left (pos 0) (pos 0) (pos 0) (pos 0) (pos 1) n0 n1 n2 n3 n4
  end_one = le five (search quotes depth 60 fits 9000) (omega (arith, ord))

  end_two : pos 0 ≤ℤ end_left (pos 0) (pos 0) (pos 0) (pos 1) (pos 1) n0 n1 n2 n3 n4
  end_two = le five (search quotes depth 60 fits 9000) (omega (arith, ord))

  end_three : pos 0 ≤ℤ end_left (pos 0) (pos 0) (pos 1) (pos 1) (pos 1) n0 n1 n2 n3 n4
  end_three = le five (search quotes depth 60 fits 9000) (omega (arith, ord))

  start_three : pos 0 ≤ℤ start_left (pos 1) (pos 0) (pos 0) (pos 0) (pos 1) n0 n1 n2 n3 n4
  start_three = le five (search quotes depth 60 fits 9000) (omega (arith, ord))

  start_two : pos 0 ≤ℤ start_left (pos 1) (pos 0) (pos 0) (pos 1) (pos 1) n0 n1 n2 n3 n4
  start_two = le five (search quotes depth 60 fits 9000) (omega (arith, ord))

  start_one : pos 0 ≤ℤ start_left (pos 1) (pos 0) (pos 1) (pos 1) (pos 1) n0 n1 n2 n3 n4
  start_one = le five (search quotes depth 60 fits 9000) (omega (arith, ord))

-- the first corner is what the edge has at the start, where nothing else of the triangle is there
first_sum : (s n0 n1 n2 n3 n4 : ℤ) → s ≡ start_left (pos 0) (pos 0) (pos 1) (pos 1) (pos 1) n0 n1 n2 n3 n4 → pos 0 ≤ℤ s → pos 0 ≤ℤ n0 → pos 0 ≤ℤ n1
first_sum s n0 n1 n2 n3 n4 e h k = let g = of_eq (s ∷ n0 ∷ n1 ∷ n2 ∷ n3 ∷ n4 ∷ []) (search quotes depth 60 fits 9000) e in omega (arith, ord)

-- the last corner is what the edge has at the end, where nothing else of the triangle is there
last_sum : (s n0 n1 n2 n3 n4 : ℤ) → s ≡ end_left (pos 1) (pos 0) (pos 0) (pos 0) (pos 1) n0 n1 n2 n3 n4 → pos 0 ≤ℤ s → pos 0 ≤ℤ n0 → pos 0 ≤ℤ n4
last_sum s n0 n1 n2 n3 n4 e h k = let g = of_eq (s ∷ n0 ∷ n1 ∷ n2 ∷ n3 ∷ n4 ∷ []) (search quotes depth 60 fits 9000) e in omega (arith, ord)

abbrev pub all_but_two : List ℕ
all_but_two = 0 ∷ 1 ∷ 3 ∷ 4 ∷ 5 ∷ 6 ∷ []

abbrev pub all_but_two_three : List ℕ
all_but_two_three = 0 ∷ 1 ∷ 4 ∷ 5 ∷ 6 ∷ []

abbrev pub all_but_none_six : List ℕ
all_but_none_six = 1 ∷ 2 ∷ 3 ∷ 4 ∷ 5 ∷ []

abbrev pub all_but_none : List ℕ
all_but_none = 1 ∷ 2 ∷ 3 ∷ 4 ∷ 5 ∷ 6 ∷ []

-- each of a list of numbers is below 7
below_seven : (l : List ℕ) → all (λ k. ltb k 7) l ≡ true → (k : ℕ) → In k l → k < 7
below_seven l h k i = ltb-true k 7 (all_in (λ k. ltb k 7) l h i)

module _ (a b : Vector) (o0 o1 o2 o3 o4 : Event) where
  abbrev F : ℕ → Plane
  F = forms a b o0 o1 o2 o3 o4

  abbrev Up : ℕ → Plane → Type 0
  Up k σ = pos 0 ≤ℤ along (F k) σ

  kept_but_two : ((σ : Plane) → Up 1 σ → Up 3 σ → Up 4 σ → Up 5 σ → Up 6 σ → Up 2 σ) → Kept F 7 all_but_two
  unfolding all
  kept_but_two two = record { there = below_seven all_but_two refl; others = others }
    where
      others : (σ : Plane) → ((k : ℕ) → In k all_but_two → pos 0 ≤ℤ along (F k) σ) → (i : ℕ) → i < 7 → pos 0 ≤ℤ along (F i) σ
      others σ up zero h = up 0 here
      others σ up (suc zero) h = up 1 (there here)
      others σ up (suc (suc zero)) h = two σ (up 1 (there here)) (up 3 (there (there here))) (up 4 (there (there (there here)))) (up 5 (there (there (there (there here))))) (up 6 (there (there (there (there (there here))))))
      others σ up (suc (suc (suc zero))) h = up 3 (there (there here))
      others σ up (suc (suc (suc (suc zero)))) h = up 4 (there (there (there here)))
      others σ up (suc (suc (suc (suc (suc zero))))) h = up 5 (there (there (there (there here))))
      others σ up (suc (suc (suc (suc (suc (suc zero)))))) h = up 6 (there (there (there (there (there here)))))
      others σ up (suc (suc (suc (suc (suc (suc (suc i))))))) h = absurd (omega arith)

  kept_but_two_three : ((σ : Plane) → Up 0 σ → Up 1 σ → Up 4 σ → Up 5 σ → Up 6 σ → Up 3 σ) → ((σ : Plane) → Up 1 σ → Up 3 σ → Up 4 σ → Up 5 σ → Up 6 σ → Up 2 σ) → Kept F 7 all_but_two_three
  unfolding all
  kept_but_two_three three two = record { there = below_seven all_but_two_three refl; others = others }
    where
      others : (σ : Plane) → ((k : ℕ) → In k all_but_two_three → pos 0 ≤ℤ along (F k) σ) → (i : ℕ) → i < 7 → pos 0 ≤ℤ along (F i) σ
      others σ up = go (up 0 here) (up 1 (there here)) (up 4 (there (there here))) (up 5 (there (there (there here)))) (up 6 (there (there (there (there here)))))
        where
          go : Up 0 σ → Up 1 σ → Up 4 σ → Up 5 σ → Up 6 σ → (i : ℕ) → i < 7 → pos 0 ≤ℤ along (F i) σ
          go u0 u1 u4 u5 u6 zero h = u0
          go u0 u1 u4 u5 u6 (suc zero) h = u1
          go u0 u1 u4 u5 u6 (suc (suc zero)) h = two σ u1 (three σ u0 u1 u4 u5 u6) u4 u5 u6
          go u0 u1 u4 u5 u6 (suc (suc (suc zero))) h = three σ u0 u1 u4 u5 u6
          go u0 u1 u4 u5 u6 (suc (suc (suc (suc zero)))) h = u4
          go u0 u1 u4 u5 u6 (suc (suc (suc (suc (suc zero))))) h = u5
          go u0 u1 u4 u5 u6 (suc (suc (suc (suc (suc (suc zero)))))) h = u6
          go u0 u1 u4 u5 u6 (suc (suc (suc (suc (suc (suc (suc i))))))) h = absurd (omega arith)

  kept_but_none_six : ((σ : Plane) → Up 1 σ → Up 2 σ → Up 6 σ) → ((σ : Plane) → Up 1 σ → Up 3 σ → Up 4 σ → Up 5 σ → Up 6 σ → Up 0 σ) → Kept F 7 all_but_none_six
  unfolding all
  kept_but_none_six six none = record { there = below_seven all_but_none_six refl; others = others }
    where
      others : (σ : Plane) → ((k : ℕ) → In k all_but_none_six → pos 0 ≤ℤ along (F k) σ) → (i : ℕ) → i < 7 → pos 0 ≤ℤ along (F i) σ
      others σ up = go (up 1 here) (up 2 (there here)) (up 3 (there (there here))) (up 4 (there (there (there here)))) (up 5 (there (there (there (there here)))))
        where
          go : Up 1 σ → Up 2 σ → Up 3 σ → Up 4 σ → Up 5 σ → (i : ℕ) → i < 7 → pos 0 ≤ℤ along (F i) σ
          go u1 u2 u3 u4 u5 zero h = none σ u1 u3 u4 u5 (six σ u1 u2)
          go u1 u2 u3 u4 u5 (suc zero) h = u1
          go u1 u2 u3 u4 u5 (suc (suc zero)) h = u2
          go u1 u2 u3 u4 u5 (suc (suc (suc zero))) h = u3
          go u1 u2 u3 u4 u5 (suc (suc (suc (suc zero)))) h = u4
          go u1 u2 u3 u4 u5 (suc (suc (suc (suc (suc zero))))) h = u5
          go u1 u2 u3 u4 u5 (suc (suc (suc (suc (suc (suc zero)))))) h = six σ u1 u2
          go u1 u2 u3 u4 u5 (suc (suc (suc (suc (suc (suc (suc i))))))) h = absurd (omega arith)

  kept_but_none : ((σ : Plane) → Up 1 σ → Up 3 σ → Up 4 σ → Up 5 σ → Up 6 σ → Up 0 σ) → Kept F 7 all_but_none
  unfolding all
  kept_but_none none = record { there = below_seven all_but_none refl; others = others }
    where
      others : (σ : Plane) → ((k : ℕ) → In k all_but_none → pos 0 ≤ℤ along (F k) σ) → (i : ℕ) → i < 7 → pos 0 ≤ℤ along (F i) σ
      others σ up zero h = none σ (up 1 here) (up 3 (there (there here))) (up 4 (there (there (there here)))) (up 5 (there (there (there (there here))))) (up 6 (there (there (there (there (there here))))))
      others σ up (suc zero) h = up 1 here
      others σ up (suc (suc zero)) h = up 2 (there here)
      others σ up (suc (suc (suc zero))) h = up 3 (there (there here))
      others σ up (suc (suc (suc (suc zero)))) h = up 4 (there (there (there here)))
      others σ up (suc (suc (suc (suc (suc zero))))) h = up 5 (there (there (there (there here))))
      others σ up (suc (suc (suc (suc (suc (suc zero)))))) h = up 6 (there (there (there (there (there here)))))
      others σ up (suc (suc (suc (suc (suc (suc (suc i))))))) h = absurd (omega arith)

-- ---- the six

module _ (a a' b b' c₁ c₁' c₂ c₂' c₃ c₃' : Vector) where
  -- the second end at the start, in piece A of the edge, or the first at the end, in piece B; and the corners of the triangle's pieces
  abbrev A0kept : Kept (forms a b' (at_start b) (at_start c₁) (at_start c₂) (at_start c₃) (at_end c₃')) 7 all_but_two
  A0kept = kept_but_two a b' (at_start b) (at_start c₁) (at_start c₂) (at_start c₃) (at_end c₃')
      (λ σ u1 u3 u4 u5 u6. subst (λ z. pos 0 ≤ℤ z) (sym (end_along a b' (at_start b) (at_start c₁) (at_start c₂) (at_start c₃) (at_end c₃') σ)) (end_one _ _ _ _ _ u1 u3 u4 u5 u6))

  abbrev A1kept : Kept (forms a b' (at_start b) (at_start c₁) (at_start c₂) (at_end c₂') (at_end c₃')) 7 all_but_two
  A1kept = kept_but_two a b' (at_start b) (at_start c₁) (at_start c₂) (at_end c₂') (at_end c₃')
      (λ σ u1 u3 u4 u5 u6. subst (λ z. pos 0 ≤ℤ z) (sym (end_along a b' (at_start b) (at_start c₁) (at_start c₂) (at_end c₂') (at_end c₃') σ)) (end_two _ _ _ _ _ u1 u3 u4 u5 u6))

  abbrev A2kept : Kept (forms a b' (at_start b) (at_start c₁) (at_end c₁') (at_end c₂') (at_end c₃')) 7 all_but_two_three
  A2kept = kept_but_two_three a b' (at_start b) (at_start c₁) (at_end c₁') (at_end c₂') (at_end c₃')
      (λ σ u0 u1 u4 u5 u6. first_sum (along (forms a b' (at_start b) (at_start c₁) (at_end c₁') (at_end c₂') (at_end c₃') 0) σ) (along (forms a b' (at_start b) (at_start c₁) (at_end c₁') (at_end c₂') (at_end c₃') 1) σ) (along (forms a b' (at_start b) (at_start c₁) (at_end c₁') (at_end c₂') (at_end c₃') 3) σ) (along (forms a b' (at_start b) (at_start c₁) (at_end c₁') (at_end c₂') (at_end c₃') 4) σ) (along (forms a b' (at_start b) (at_start c₁) (at_end c₁') (at_end c₂') (at_end c₃') 5) σ) (along (forms a b' (at_start b) (at_start c₁) (at_end c₁') (at_end c₂') (at_end c₃') 6) σ)
      (start_along a b' (at_start b) (at_start c₁) (at_end c₁') (at_end c₂') (at_end c₃') σ) u0 u1)
      (λ σ u1 u3 u4 u5 u6. subst (λ z. pos 0 ≤ℤ z) (sym (end_along a b' (at_start b) (at_start c₁) (at_end c₁') (at_end c₂') (at_end c₃') σ)) (end_three _ _ _ _ _ u1 u3 u4 u5 u6))

  abbrev B0kept : Kept (forms a b' (at_end a') (at_start c₁) (at_start c₂) (at_start c₃) (at_end c₃')) 7 all_but_none_six
  B0kept = kept_but_none_six a b' (at_end a') (at_start c₁) (at_start c₂) (at_start c₃) (at_end c₃')
      (λ σ u1 u2. last_sum (along (forms a b' (at_end a') (at_start c₁) (at_start c₂) (at_start c₃) (at_end c₃') 2) σ) (along (forms a b' (at_end a') (at_start c₁) (at_start c₂) (at_start c₃) (at_end c₃') 1) σ) (along (forms a b' (at_end a') (at_start c₁) (at_start c₂) (at_start c₃) (at_end c₃') 3) σ) (along (forms a b' (at_end a') (at_start c₁) (at_start c₂) (at_start c₃) (at_end c₃') 4) σ) (along (forms a b' (at_end a') (at_start c₁) (at_start c₂) (at_start c₃) (at_end c₃') 5) σ) (along (forms a b' (at_end a') (at_start c₁) (at_start c₂) (at_start c₃) (at_end c₃') 6) σ)
      (end_along a b' (at_end a') (at_start c₁) (at_start c₂) (at_start c₃) (at_end c₃') σ) u2 u1)
      (λ σ u1 u3 u4 u5 u6. subst (λ z. pos 0 ≤ℤ z) (sym (start_along a b' (at_end a') (at_start c₁) (at_start c₂) (at_start c₃) (at_end c₃') σ)) (start_three _ _ _ _ _ u1 u3 u4 u5 u6))

  abbrev B1kept : Kept (forms a b' (at_end a') (at_start c₁) (at_start c₂) (at_end c₂') (at_end c₃')) 7 all_but_none
  B1kept = kept_but_none a b' (at_end a') (at_start c₁) (at_start c₂) (at_end c₂') (at_end c₃')
      (λ σ u1 u3 u4 u5 u6. subst (λ z. pos 0 ≤ℤ z) (sym (start_along a b' (at_end a') (at_start c₁) (at_start c₂) (at_end c₂') (at_end c₃') σ)) (start_two _ _ _ _ _ u1 u3 u4 u5 u6))

  abbrev B2kept : Kept (forms a b' (at_end a') (at_start c₁) (at_end c₁') (at_end c₂') (at_end c₃')) 7 all_but_none
  B2kept = kept_but_none a b' (at_end a') (at_start c₁) (at_end c₁') (at_end c₂') (at_end c₃')
      (λ σ u1 u3 u4 u5 u6. subst (λ z. pos 0 ≤ℤ z) (sym (start_along a b' (at_end a') (at_start c₁) (at_end c₁') (at_end c₂') (at_end c₃') σ)) (start_one _ _ _ _ _ u1 u3 u4 u5 u6))

-- ---- the start and the end

module _ (p q r x y z u : Event) where
  -- numbers of the edge's three points and of the triangle's four, the last of each being 0
  abbrev front : (ℕ → ℕ) → (ℕ → ℕ) → ℕ → ℕ
  front m n i = get_or (m 0 ∷ m 1 ∷ 0 ∷ n 0 ∷ n 1 ∷ n 2 ∷ 0 ∷ []) i 0

  -- or the first of each
  abbrev rear : (ℕ → ℕ) → (ℕ → ℕ) → ℕ → ℕ
  rear m n i = get_or (0 ∷ m 0 ∷ m 1 ∷ 0 ∷ n 0 ∷ n 1 ∷ n 2 ∷ []) i 0

  front_facet : Touch (p ∷ q ∷ []) (x ∷ y ∷ z ∷ []) → TouchIn (p ∷ q ∷ r ∷ []) (x ∷ y ∷ z ∷ u ∷ []) (without 6 (λ i. true))
  unfolding total
  front_facet t = record {
    w = front t.u t.v;
    level = balanced_by (λ m. two (read m p) (read m q) (read m r) ∙ sum_of t.balanced m ∙ sym (three (read m x) (read m y) (read m z) (read m u)));
    some = subst (λ k. pos 0 <ℤ k) (sym (two (pos 1) (pos 1) (pos 1))) t.some;
    out = λ i below e. ⊎_elim (λ k. subst (λ (j : ℕ). front t.u t.v j ≡ 0) (sym k) refl) (λ k. absurd (true≢false k)) (without_out 6 (λ i. true) i e);
  }
    where
      two : (f g h : ℤ) → pos (t.u 0) *ℤ f +ℤ (pos (t.u 1) *ℤ g +ℤ (pos 0 *ℤ h +ℤ pos 0)) ≡ pos (t.u 0) *ℤ f +ℤ (pos (t.u 1) *ℤ g +ℤ pos 0)
      two f g h = plain (pos (t.u 0)) (pos (t.u 1)) f g h
        where
          plain : (m n f g h : ℤ) → m *ℤ f +ℤ (n *ℤ g +ℤ (pos 0 *ℤ h +ℤ pos 0)) ≡ m *ℤ f +ℤ (n *ℤ g +ℤ pos 0)
          plain m n f g h = ring (m ∷ n ∷ f ∷ g ∷ h ∷ []) (search quotes depth 40 fits 9000) refl

      three : (f g h k : ℤ) → pos (t.v 0) *ℤ f +ℤ (pos (t.v 1) *ℤ g +ℤ (pos (t.v 2) *ℤ h +ℤ (pos 0 *ℤ k +ℤ pos 0))) ≡ pos (t.v 0) *ℤ f +ℤ (pos (t.v 1) *ℤ g +ℤ (pos (t.v 2) *ℤ h +ℤ pos 0))
      three f g h k = plain (pos (t.v 0)) (pos (t.v 1)) (pos (t.v 2)) f g h k
        where
          plain : (l m n f g h k : ℤ) → l *ℤ f +ℤ (m *ℤ g +ℤ (n *ℤ h +ℤ (pos 0 *ℤ k +ℤ pos 0))) ≡ l *ℤ f +ℤ (m *ℤ g +ℤ (n *ℤ h +ℤ pos 0))
          plain l m n f g h k = ring (l ∷ m ∷ n ∷ f ∷ g ∷ h ∷ k ∷ []) (search quotes depth 40 fits 9000) refl

  rear_facet : Touch (q ∷ r ∷ []) (y ∷ z ∷ u ∷ []) → TouchIn (p ∷ q ∷ r ∷ []) (x ∷ y ∷ z ∷ u ∷ []) (without 3 (λ i. true))
  unfolding total
  rear_facet t = record {
    w = rear t.u t.v;
    level = balanced_by (λ m. nought (read m p) _ ∙ sum_of t.balanced m ∙ sym (nought (read m x) _));
    some = subst (λ k. pos 0 <ℤ k) (sym (nought (pos 1) _)) t.some;
    out = λ i below e. ⊎_elim (λ k. subst (λ (j : ℕ). rear t.u t.v j ≡ 0) (sym k) refl) (λ k. absurd (true≢false k)) (without_out 3 (λ i. true) i e);
  }
    where
      nought : (f n : ℤ) → pos 0 *ℤ f +ℤ n ≡ n
      nought f n = ring (f ∷ n ∷ []) (search quotes depth 40 fits 9000) refl

-- at one time nothing of the other time has a weight
start_of : (a b b' c₁ c₂ c₃ : Vector) → Touch (at_start a ∷ at_start b ∷ at_end b' ∷ []) (at_start c₁ ∷ at_start c₂ ∷ at_start c₃ ∷ []) → Touch (at_start a ∷ at_start b ∷ []) (at_start c₁ ∷ at_start c₂ ∷ at_start c₃ ∷ [])
unfolding total Faces.without
start_of a b b' c₁ c₂ c₃ t = record {
  u = skip 2 t.u;
  v = t.v;
  balanced = balanced_by (λ m. skip_total (read m) 2 t.u (at_start a ∷ at_start b ∷ at_end b' ∷ []) none ∙ sum_of t.balanced m);
  some = subst (λ z. pos 0 <ℤ z) (sym (skip_total one 2 t.u (at_start a ∷ at_start b ∷ at_end b' ∷ []) none)) t.some;
}
  where
    none : t.u 2 ≡ 0
    none = let h = ap nat_abs t.balanced.times in omega arith

end_of : (a a' b' c₁' c₂' c₃' : Vector) → Touch (at_start a ∷ at_end a' ∷ at_end b' ∷ []) (at_end c₁' ∷ at_end c₂' ∷ at_end c₃' ∷ []) → Touch (at_end a' ∷ at_end b' ∷ []) (at_end c₁' ∷ at_end c₂' ∷ at_end c₃' ∷ [])
unfolding total Faces.without
end_of a a' b' c₁' c₂' c₃' t = record {
  u = skip 0 t.u;
  v = t.v;
  balanced = balanced_by (λ m. skip_total (read m) 0 t.u (at_start a ∷ at_end a' ∷ at_end b' ∷ []) none ∙ sum_of t.balanced m);
  some = subst (λ z. pos 0 <ℤ z) (sym (skip_total one 0 t.u (at_start a ∷ at_end a' ∷ at_end b' ∷ []) none)) t.some;
}
  where
    none : t.u 0 ≡ 0
    none = let h = ap nat_abs t.balanced.times in let g = ap nat_abs t.balanced.sums in omega arith

-- ---- of Bools: what is left of six even sums

two : (x y : Bool) → unlike x (unlike y false) ≡ false → x ≡ y
two true true h = refl
two true false h = h
two false true h = sym h
two false false h = refl

three : (x y z : Bool) → unlike x (unlike y (unlike z false)) ≡ false → x ≡ unlike y z
three true true true h = h
three true true false h = refl
three true false true h = refl
three true false false h = h
three false true true h = refl
three false true false h = sym h
three false false true h = sym h
three false false false h = refl

-- what is false adds nothing
none_in : {x y : Bool} → x ≡ false → unlike x y ≡ y
none_in {x} {y} e = ap (λ (b : Bool). unlike b y) e

both_ends : (st en q t : Bool) → unlike (unlike en t) q ≡ unlike t (unlike q st) → st ≡ en
both_ends true true q t h = refl
both_ends false false q t h = refl
both_ends true false true true h = sym h
both_ends true false true false h = h
both_ends true false false true h = h
both_ends true false false false h = sym h
both_ends false true true true h = sym h
both_ends false true true false h = h
both_ends false true false true h = h
both_ends false true false false h = sym h

-- ---- the theorem

abbrev pub point_of : Vector → Vector → List Event
point_of p p' = at_start p ∷ at_end p' ∷ []

unfoldable pub edge_of : Vector → Vector → Vector → Vector → ℕ → List Event
edge_of p p' q q' zero = at_start p ∷ at_start q ∷ at_end q' ∷ []
edge_of p p' q q' (suc k) = at_start p ∷ at_end p' ∷ at_end q' ∷ []

unfoldable pub triangle_of : Vector → Vector → Vector → Vector → Vector → Vector → ℕ → List Event
triangle_of p p' q q' r r' zero = at_start p ∷ at_start q ∷ at_start r ∷ at_end r' ∷ []
triangle_of p p' q q' r r' (suc zero) = at_start p ∷ at_start q ∷ at_end q' ∷ at_end r' ∷ []
triangle_of p p' q q' r r' (suc (suc k)) = at_start p ∷ at_end p' ∷ at_end q' ∷ at_end r' ∷ []

module _ (a a' b b' c₁ c₁' c₂ c₂' c₃ c₃' : Vector) where
  -- neither end touches the triangle in any piece, and the edge touches none of the sides in any piece
  pub record Untouched : Type 0 where
    pub first_end : (k : ℕ) → ¬ Touch (point_of a a') (triangle_of c₁ c₁' c₂ c₂' c₃ c₃' k)
    pub second_end : (k : ℕ) → ¬ Touch (point_of b b') (triangle_of c₁ c₁' c₂ c₂' c₃ c₃' k)
    pub low_middle : (m n : ℕ) → ¬ Touch (edge_of a a' b b' m) (edge_of c₁ c₁' c₂ c₂' n)
    pub low_high : (m n : ℕ) → ¬ Touch (edge_of a a' b b' m) (edge_of c₁ c₁' c₃ c₃' n)
    pub middle_high : (m n : ℕ) → ¬ Touch (edge_of a a' b b' m) (edge_of c₂ c₂' c₃ c₃' n)

  -- each of the six cells is in general position
  pub record General : Type 0 where
    pub A0 : InGeneral a b' (at_start b) (at_start c₁) (at_start c₂) (at_start c₃) (at_end c₃') all_but_two
    pub A1 : InGeneral a b' (at_start b) (at_start c₁) (at_start c₂) (at_end c₂') (at_end c₃') all_but_two
    pub A2 : InGeneral a b' (at_start b) (at_start c₁) (at_end c₁') (at_end c₂') (at_end c₃') all_but_two_three
    pub B0 : InGeneral a b' (at_end a') (at_start c₁) (at_start c₂) (at_start c₃) (at_end c₃') all_but_none_six
    pub B1 : InGeneral a b' (at_end a') (at_start c₁) (at_start c₂) (at_end c₂') (at_end c₃') all_but_none
    pub B2 : InGeneral a b' (at_end a') (at_start c₁) (at_end c₁') (at_end c₂') (at_end c₃') all_but_none

  abbrev pub AtTheStart : Type 0
  AtTheStart = Touch (at_start a ∷ at_start b ∷ []) (at_start c₁ ∷ at_start c₂ ∷ at_start c₃ ∷ [])

  abbrev pub AtTheEnd : Type 0
  AtTheEnd = Touch (at_end a' ∷ at_end b' ∷ []) (at_end c₁' ∷ at_end c₂' ∷ at_end c₃' ∷ [])

not_so : {P : Type 0} (x : Bool) → P ↔ (x ≡ true) → ¬ P → x ≡ false
not_so true e n = absurd (n (e.1 refl))
not_so false e n = refl

alike : {P Q : Type 0} (x y : Bool) → P ↔ (x ≡ true) → Q ↔ (y ≡ true) → (P → Q) → (Q → P) → x ≡ y
alike x y e f g h = same_test x y (λ i. f.0 (g (e.1 i))) (λ i. e.0 (h (f.1 i)))

module _ {a a' b b' c₁ c₁' c₂ c₂' c₃ c₃' : Vector} (untouched : Untouched a a' b b' c₁ c₁' c₂ c₂' c₃ c₃') (general : General a a' b b' c₁ c₁' c₂ c₂' c₃ c₃') where
  abbrev edge_a : List Event
  edge_a = at_start a ∷ at_start b ∷ at_end b' ∷ []

  abbrev edge_b : List Event
  edge_b = at_start a ∷ at_end a' ∷ at_end b' ∷ []

  abbrev T0 : List Event
  T0 = at_start c₁ ∷ at_start c₂ ∷ at_start c₃ ∷ at_end c₃' ∷ []

  abbrev T1 : List Event
  T1 = at_start c₁ ∷ at_start c₂ ∷ at_end c₂' ∷ at_end c₃' ∷ []

  abbrev T2 : List Event
  T2 = at_start c₁ ∷ at_end c₁' ∷ at_end c₂' ∷ at_end c₃' ∷ []

  -- the borders of the six cells, and what each says
  abbrev f_a0 : ℕ → Bool
  f_a0 = border_at a b' (at_start b) (at_start c₁) (at_start c₂) (at_start c₃) (at_end c₃') 0 1 (3 ∷ 4 ∷ 5 ∷ 6 ∷ []) (A0kept a a' b b' c₁ c₁' c₂ c₂' c₃ c₃') general.A0

  at_a0 : (k : ℕ) → In k all_but_two → TouchIn edge_a T0 (without k (λ i. true)) ↔ (f_a0 k ≡ true)
  at_a0 = touched_at a b' (at_start b) (at_start c₁) (at_start c₂) (at_start c₃) (at_end c₃') 0 1 (3 ∷ 4 ∷ 5 ∷ 6 ∷ []) (A0kept a a' b b' c₁ c₁' c₂ c₂' c₃ c₃') general.A0

  abbrev f_a1 : ℕ → Bool
  f_a1 = border_at a b' (at_start b) (at_start c₁) (at_start c₂) (at_end c₂') (at_end c₃') 0 1 (3 ∷ 4 ∷ 5 ∷ 6 ∷ []) (A1kept a a' b b' c₁ c₁' c₂ c₂' c₃ c₃') general.A1

  at_a1 : (k : ℕ) → In k all_but_two → TouchIn edge_a T1 (without k (λ i. true)) ↔ (f_a1 k ≡ true)
  at_a1 = touched_at a b' (at_start b) (at_start c₁) (at_start c₂) (at_end c₂') (at_end c₃') 0 1 (3 ∷ 4 ∷ 5 ∷ 6 ∷ []) (A1kept a a' b b' c₁ c₁' c₂ c₂' c₃ c₃') general.A1

  abbrev f_a2 : ℕ → Bool
  f_a2 = border_at a b' (at_start b) (at_start c₁) (at_end c₁') (at_end c₂') (at_end c₃') 0 1 (4 ∷ 5 ∷ 6 ∷ []) (A2kept a a' b b' c₁ c₁' c₂ c₂' c₃ c₃') general.A2

  at_a2 : (k : ℕ) → In k all_but_two_three → TouchIn edge_a T2 (without k (λ i. true)) ↔ (f_a2 k ≡ true)
  at_a2 = touched_at a b' (at_start b) (at_start c₁) (at_end c₁') (at_end c₂') (at_end c₃') 0 1 (4 ∷ 5 ∷ 6 ∷ []) (A2kept a a' b b' c₁ c₁' c₂ c₂' c₃ c₃') general.A2

  abbrev f_b0 : ℕ → Bool
  f_b0 = border_at a b' (at_end a') (at_start c₁) (at_start c₂) (at_start c₃) (at_end c₃') 1 2 (3 ∷ 4 ∷ 5 ∷ []) (B0kept a a' b b' c₁ c₁' c₂ c₂' c₃ c₃') general.B0

  at_b0 : (k : ℕ) → In k all_but_none_six → TouchIn edge_b T0 (without k (λ i. true)) ↔ (f_b0 k ≡ true)
  at_b0 = touched_at a b' (at_end a') (at_start c₁) (at_start c₂) (at_start c₃) (at_end c₃') 1 2 (3 ∷ 4 ∷ 5 ∷ []) (B0kept a a' b b' c₁ c₁' c₂ c₂' c₃ c₃') general.B0

  abbrev f_b1 : ℕ → Bool
  f_b1 = border_at a b' (at_end a') (at_start c₁) (at_start c₂) (at_end c₂') (at_end c₃') 1 2 (3 ∷ 4 ∷ 5 ∷ 6 ∷ []) (B1kept a a' b b' c₁ c₁' c₂ c₂' c₃ c₃') general.B1

  at_b1 : (k : ℕ) → In k all_but_none → TouchIn edge_b T1 (without k (λ i. true)) ↔ (f_b1 k ≡ true)
  at_b1 = touched_at a b' (at_end a') (at_start c₁) (at_start c₂) (at_end c₂') (at_end c₃') 1 2 (3 ∷ 4 ∷ 5 ∷ 6 ∷ []) (B1kept a a' b b' c₁ c₁' c₂ c₂' c₃ c₃') general.B1

  abbrev f_b2 : ℕ → Bool
  f_b2 = border_at a b' (at_end a') (at_start c₁) (at_end c₁') (at_end c₂') (at_end c₃') 1 2 (3 ∷ 4 ∷ 5 ∷ 6 ∷ []) (B2kept a a' b b' c₁ c₁' c₂ c₂' c₃ c₃') general.B2

  at_b2 : (k : ℕ) → In k all_but_none → TouchIn edge_b T2 (without k (λ i. true)) ↔ (f_b2 k ≡ true)
  at_b2 = touched_at a b' (at_end a') (at_start c₁) (at_end c₁') (at_end c₂') (at_end c₃') 1 2 (3 ∷ 4 ∷ 5 ∷ 6 ∷ []) (B2kept a a' b b' c₁ c₁' c₂ c₂' c₃ c₃') general.B2

  -- ---- the pieces of ends and sides are borders of no cell

  sum_a0 : f_a0 1 ≡ unlike (f_a0 5) (f_a0 6)
  unfolding odd Faces.without edge_of triangle_of
  sum_a0 =
      let e0 = not_so (f_a0 0) (at_a0 0 here) (λ t. untouched.second_end 0 (drop_first edge_a T0 0 (omega arith) t)) in
      let e3 = not_so (f_a0 3) (at_a0 3 (there (there here))) (λ t. untouched.middle_high 0 0 (drop_second edge_a T0 0 (omega arith) t)) in
      let e4 = not_so (f_a0 4) (at_a0 4 (there (there (there here)))) (λ t. untouched.low_high 0 0 (drop_second edge_a T0 1 (omega arith) t)) in
      three (f_a0 1) (f_a0 5) (f_a0 6)
      (ap (λ (x : Bool). unlike (f_a0 1) x) (sym (none_in {y = unlike (f_a0 5) (unlike (f_a0 6) false)} e4))
      ∙ ap (λ (x : Bool). unlike (f_a0 1) x) (sym (none_in {y = unlike (f_a0 4) (unlike (f_a0 5) (unlike (f_a0 6) false))} e3))
      ∙ sym (none_in {y = unlike (f_a0 1) (unlike (f_a0 3) (unlike (f_a0 4) (unlike (f_a0 5) (unlike (f_a0 6) false))))} e0)
      ∙ even_here a b' (at_start b) (at_start c₁) (at_start c₂) (at_start c₃) (at_end c₃') 0 1 (3 ∷ 4 ∷ 5 ∷ 6 ∷ []) (A0kept a a' b b' c₁ c₁' c₂ c₂' c₃ c₃') general.A0)

  sum_a1 : f_a1 1 ≡ unlike (f_a1 4) (f_a1 5)
  unfolding odd Faces.without edge_of triangle_of
  sum_a1 =
      let e0 = not_so (f_a1 0) (at_a1 0 here) (λ t. untouched.second_end 1 (drop_first edge_a T1 0 (omega arith) t)) in
      let e3 = not_so (f_a1 3) (at_a1 3 (there (there here))) (λ t. untouched.middle_high 0 1 (drop_second edge_a T1 0 (omega arith) t)) in
      let e6 = not_so (f_a1 6) (at_a1 6 (there (there (there (there (there here)))))) (λ t. untouched.low_middle 0 0 (drop_second edge_a T1 3 (omega arith) t)) in
      three (f_a1 1) (f_a1 4) (f_a1 5)
      (ap (λ (x : Bool). unlike (f_a1 1) (unlike (f_a1 4) (unlike (f_a1 5) x))) (sym (none_in {y = false} e6))
      ∙ ap (λ (x : Bool). unlike (f_a1 1) x) (sym (none_in {y = unlike (f_a1 4) (unlike (f_a1 5) (unlike (f_a1 6) false))} e3))
      ∙ sym (none_in {y = unlike (f_a1 1) (unlike (f_a1 3) (unlike (f_a1 4) (unlike (f_a1 5) (unlike (f_a1 6) false))))} e0)
      ∙ even_here a b' (at_start b) (at_start c₁) (at_start c₂) (at_end c₂') (at_end c₃') 0 1 (3 ∷ 4 ∷ 5 ∷ 6 ∷ []) (A1kept a a' b b' c₁ c₁' c₂ c₂' c₃ c₃') general.A1)

  sum_a2 : f_a2 1 ≡ f_a2 4
  unfolding odd Faces.without edge_of triangle_of
  sum_a2 =
      let e0 = not_so (f_a2 0) (at_a2 0 here) (λ t. untouched.second_end 2 (drop_first edge_a T2 0 (omega arith) t)) in
      let e5 = not_so (f_a2 5) (at_a2 5 (there (there (there here)))) (λ t. untouched.low_high 0 1 (drop_second edge_a T2 2 (omega arith) t)) in
      let e6 = not_so (f_a2 6) (at_a2 6 (there (there (there (there here))))) (λ t. untouched.low_middle 0 1 (drop_second edge_a T2 3 (omega arith) t)) in
      two (f_a2 1) (f_a2 4)
      (ap (λ (x : Bool). unlike (f_a2 1) (unlike (f_a2 4) x)) (sym (none_in {y = false} e6))
      ∙ ap (λ (x : Bool). unlike (f_a2 1) (unlike (f_a2 4) x)) (sym (none_in {y = unlike (f_a2 6) false} e5))
      ∙ sym (none_in {y = unlike (f_a2 1) (unlike (f_a2 4) (unlike (f_a2 5) (unlike (f_a2 6) false)))} e0)
      ∙ even_here a b' (at_start b) (at_start c₁) (at_end c₁') (at_end c₂') (at_end c₃') 0 1 (4 ∷ 5 ∷ 6 ∷ []) (A2kept a a' b b' c₁ c₁' c₂ c₂' c₃ c₃') general.A2)

  sum_b0 : f_b0 1 ≡ f_b0 5
  unfolding odd Faces.without edge_of triangle_of
  sum_b0 =
      let e2 = not_so (f_b0 2) (at_b0 2 (there here)) (λ t. untouched.first_end 0 (drop_first edge_b T0 2 (omega arith) t)) in
      let e3 = not_so (f_b0 3) (at_b0 3 (there (there here))) (λ t. untouched.middle_high 1 0 (drop_second edge_b T0 0 (omega arith) t)) in
      let e4 = not_so (f_b0 4) (at_b0 4 (there (there (there here)))) (λ t. untouched.low_high 1 0 (drop_second edge_b T0 1 (omega arith) t)) in
      two (f_b0 1) (f_b0 5)
      (ap (λ (x : Bool). unlike (f_b0 1) x) (sym (none_in {y = unlike (f_b0 5) false} e4))
      ∙ ap (λ (x : Bool). unlike (f_b0 1) x) (sym (none_in {y = unlike (f_b0 4) (unlike (f_b0 5) false)} e3))
      ∙ ap (λ (x : Bool). unlike (f_b0 1) x) (sym (none_in {y = unlike (f_b0 3) (unlike (f_b0 4) (unlike (f_b0 5) false))} e2))
      ∙ even_here a b' (at_end a') (at_start c₁) (at_start c₂) (at_start c₃) (at_end c₃') 1 2 (3 ∷ 4 ∷ 5 ∷ []) (B0kept a a' b b' c₁ c₁' c₂ c₂' c₃ c₃') general.B0)

  sum_b1 : f_b1 1 ≡ unlike (f_b1 4) (f_b1 5)
  unfolding odd Faces.without edge_of triangle_of
  sum_b1 =
      let e2 = not_so (f_b1 2) (at_b1 2 (there here)) (λ t. untouched.first_end 1 (drop_first edge_b T1 2 (omega arith) t)) in
      let e3 = not_so (f_b1 3) (at_b1 3 (there (there here))) (λ t. untouched.middle_high 1 1 (drop_second edge_b T1 0 (omega arith) t)) in
      let e6 = not_so (f_b1 6) (at_b1 6 (there (there (there (there (there here)))))) (λ t. untouched.low_middle 1 0 (drop_second edge_b T1 3 (omega arith) t)) in
      three (f_b1 1) (f_b1 4) (f_b1 5)
      (ap (λ (x : Bool). unlike (f_b1 1) (unlike (f_b1 4) (unlike (f_b1 5) x))) (sym (none_in {y = false} e6))
      ∙ ap (λ (x : Bool). unlike (f_b1 1) x) (sym (none_in {y = unlike (f_b1 4) (unlike (f_b1 5) (unlike (f_b1 6) false))} e3))
      ∙ ap (λ (x : Bool). unlike (f_b1 1) x) (sym (none_in {y = unlike (f_b1 3) (unlike (f_b1 4) (unlike (f_b1 5) (unlike (f_b1 6) false)))} e2))
      ∙ even_here a b' (at_end a') (at_start c₁) (at_start c₂) (at_end c₂') (at_end c₃') 1 2 (3 ∷ 4 ∷ 5 ∷ 6 ∷ []) (B1kept a a' b b' c₁ c₁' c₂ c₂' c₃ c₃') general.B1)

  sum_b2 : f_b2 1 ≡ unlike (f_b2 3) (f_b2 4)
  unfolding odd Faces.without edge_of triangle_of
  sum_b2 =
      let e2 = not_so (f_b2 2) (at_b2 2 (there here)) (λ t. untouched.first_end 2 (drop_first edge_b T2 2 (omega arith) t)) in
      let e5 = not_so (f_b2 5) (at_b2 5 (there (there (there (there here))))) (λ t. untouched.low_high 1 1 (drop_second edge_b T2 2 (omega arith) t)) in
      let e6 = not_so (f_b2 6) (at_b2 6 (there (there (there (there (there here)))))) (λ t. untouched.low_middle 1 1 (drop_second edge_b T2 3 (omega arith) t)) in
      three (f_b2 1) (f_b2 3) (f_b2 4)
      (ap (λ (x : Bool). unlike (f_b2 1) (unlike (f_b2 3) (unlike (f_b2 4) x))) (sym (none_in {y = false} e6))
      ∙ ap (λ (x : Bool). unlike (f_b2 1) (unlike (f_b2 3) (unlike (f_b2 4) x))) (sym (none_in {y = unlike (f_b2 6) false} e5))
      ∙ ap (λ (x : Bool). unlike (f_b2 1) x) (sym (none_in {y = unlike (f_b2 3) (unlike (f_b2 4) (unlike (f_b2 5) (unlike (f_b2 6) false)))} e2))
      ∙ even_here a b' (at_end a') (at_start c₁) (at_end c₁') (at_end c₂') (at_end c₃') 1 2 (3 ∷ 4 ∷ 5 ∷ 6 ∷ []) (B2kept a a' b b' c₁ c₁' c₂ c₂' c₃ c₃') general.B2)

  -- ---- the faces between two cells are borders of both or of neither

  over_edge0 : f_a0 1 ≡ f_b0 1
  over_edge0 = alike (f_a0 1) (f_b0 1) (at_a0 1 (there here)) (at_b0 1 here) (changed_first 1 T0 (behind changed) (omega arith)) (changed_first 1 T0 (behind changed) (omega arith))

  over_edge1 : f_a1 1 ≡ f_b1 1
  over_edge1 = alike (f_a1 1) (f_b1 1) (at_a1 1 (there here)) (at_b1 1 here) (changed_first 1 T1 (behind changed) (omega arith)) (changed_first 1 T1 (behind changed) (omega arith))

  over_edge2 : f_a2 1 ≡ f_b2 1
  over_edge2 = alike (f_a2 1) (f_b2 1) (at_a2 1 (there here)) (at_b2 1 here) (changed_first 1 T2 (behind changed) (omega arith)) (changed_first 1 T2 (behind changed) (omega arith))

  lower_a : f_a0 5 ≡ f_a1 5
  lower_a = alike (f_a0 5) (f_a1 5) (at_a0 5 (there (there (there (there here))))) (at_a1 5 (there (there (there (there here)))))
      (changed_second 2 edge_a (behind (behind changed)) (omega arith)) (changed_second 2 edge_a (behind (behind changed)) (omega arith))

  lower_b : f_b0 5 ≡ f_b1 5
  lower_b = alike (f_b0 5) (f_b1 5) (at_b0 5 (there (there (there (there here))))) (at_b1 5 (there (there (there (there here)))))
      (changed_second 2 edge_b (behind (behind changed)) (omega arith)) (changed_second 2 edge_b (behind (behind changed)) (omega arith))

  upper_a : f_a1 4 ≡ f_a2 4
  upper_a = alike (f_a1 4) (f_a2 4) (at_a1 4 (there (there (there here)))) (at_a2 4 (there (there here)))
      (changed_second 1 edge_a (behind changed) (omega arith)) (changed_second 1 edge_a (behind changed) (omega arith))

  upper_b : f_b1 4 ≡ f_b2 4
  upper_b = alike (f_b1 4) (f_b2 4) (at_b1 4 (there (there (there here)))) (at_b2 4 (there (there (there here))))
      (changed_second 1 edge_b (behind changed) (omega arith)) (changed_second 1 edge_b (behind changed) (omega arith))

  -- ---- so start and end are alike

  both_alike : f_a0 6 ≡ f_b2 3
  both_alike = both_ends (f_a0 6) (f_b2 3) (f_a0 5) (f_b1 4)
      (ap (λ (x : Bool). unlike x (f_a0 5)) (sym (upper_a ∙ sym sum_a2 ∙ over_edge2 ∙ sum_b2 ∙ ap (unlike (f_b2 3)) (sym upper_b)))
      ∙ ap (unlike (f_a1 4)) lower_a ∙ sym sum_a1 ∙ over_edge1 ∙ sum_b1
      ∙ ap (unlike (f_b1 4)) (sym lower_b ∙ sym sum_b0 ∙ sym over_edge0 ∙ sum_a0))

  start_is : AtTheStart a a' b b' c₁ c₁' c₂ c₂' c₃ c₃' ↔ (f_a0 6 ≡ true)
  unfolding Faces.without
  start_is =
      let at = at_a0 6 (there (there (there (there (there here))))) in (
        λ t. at.0 (front_facet (at_start a) (at_start b) (at_end b') (at_start c₁) (at_start c₂) (at_start c₃) (at_end c₃') t),
        λ e. start_of a b b' c₁ c₂ c₃ (drop_second edge_a T0 3 (omega arith) (at.1 e)),
      )

  end_is : AtTheEnd a a' b b' c₁ c₁' c₂ c₂' c₃ c₃' ↔ (f_b2 3 ≡ true)
  unfolding Faces.without
  end_is =
      let at = at_b2 3 (there (there here)) in (
        λ t. at.0 (rear_facet (at_start a) (at_end a') (at_end b') (at_start c₁) (at_end c₁') (at_end c₂') (at_end c₃') t),
        λ e. end_of a a' b' c₁' c₂' c₃' (drop_second edge_b T2 0 (omega arith) (at.1 e)),
      )

  -- clean at the start and nothing touched: clean at the end; and back
  pub general_clean : AtTheStart a a' b b' c₁ c₁' c₂ c₂' c₃ c₃' ↔ AtTheEnd a a' b b' c₁ c₁' c₂ c₂' c₃ c₃'
  general_clean = (λ t. end_is.1 (sym both_alike ∙ start_is.0 t), λ t. start_is.1 (both_alike ∙ end_is.0 t))
