-- Clean at the start, nothing touched: clean at the end. If neither end of a moving edge touches a moving triangle in any piece, and the edge touches
-- none of its sides in any piece, then the edge is through the triangle at the start exactly when it is at the end; whatever the ten places are.
-- Blown up far enough and nudged all of it stays as it is, and is in general position.
use Prim.Native.Nat.{ℕ, zero, suc, ◌+◌, ◌≤◌, ◌<◌}
use Rattle.std.proofs.Common.{arith, inl, inr, ⊎_elim}
use Rattle.std.specs.Prelude.{◌↔◌, ◌⊎◌, true, ℤ, pos}
use mathlib.Core.List.{List, [], ◌∷◌}
use Rattle.whole.specs.Vector.{Vector}
use Rattle.meaning.specs.Pieces.{Event}
use Rattle.meaning.specs.Equations.{Touch}
use Rattle.theory.specs.Differences.{at_start, at_end}
use Rattle.theory.specs.NoCrack as Faces
use Rattle.theory.specs.SamePoints.{touch_turned}
use Rattle.corner_laws.specs.Left.{TouchIn, without}
use Rattle.clean_laws.specs.Gordan.{Gordan, null, side, gordan}
use Rattle.clean_laws.specs.Columns.{five, columns, null_touch, sides_apart, Nudged, FromSomeOn, untouched_stays}
use Rattle.clean_laws.specs.Dropped.{drop_first, drop_second}
use Rattle.clean_laws.specs.SixCells.{point_of, edge_of, triangle_of, Untouched, AtTheStart, AtTheEnd, general_clean}
use Rattle.clean_laws.specs.Congruent.{blown_to}
use Rattle.clean_laws.specs.Nudges.{qa, qa', qb, qb', q₁, q₁', q₂, q₂', q₃, q₃', by, far_enough, nudged_general}
use Rattle.clean_laws.specs.Proper.{Loose, proper_stays}

-- two simplices touch or do not
pub touch_or_not : (a b : List Event) → Touch a b ⊎ (¬ Touch a b)
touch_or_not a b = go (gordan five (columns a b))
  where
    go : Gordan five (columns a b) → Touch a b ⊎ (¬ Touch a b)
    go (null n) = inl (null_touch a b n)
    go (side d) = inr (sides_apart a b d)

-- a point put in, without weight
put_first : (i : ℕ) (l b : List Event) → Touch (Faces.without i l) b → Touch l b
put_first = Faces.touch_of_face

put_second : (i : ℕ) (a l : List Event) → Touch a (Faces.without i l) → Touch a l
put_second i a l t = touch_turned (Faces.touch_of_face i l a (touch_turned t))

-- ---- nothing touched, so none of the five points at one time can be left out

module _ {a a' b b' c₁ c₁' c₂ c₂' c₃ c₃' : Vector} (u : Untouched a a' b b' c₁ c₁' c₂ c₂' c₃ c₃') where
  loose_at_start : Loose (pos 0) a b c₁ c₂ c₃
  unfolding Faces.without edge_of triangle_of
  loose_at_start = record { none = none }
    where
      E : List Event
      E = at_start a ∷ at_start b ∷ []

      T : List Event
      T = at_start c₁ ∷ at_start c₂ ∷ at_start c₃ ∷ []

      A : List Event
      A = edge_of a a' b b' 0

      none : (k : ℕ) → k < 5 → ¬ TouchIn (at_start a ∷ at_start b ∷ []) (at_start c₁ ∷ at_start c₂ ∷ at_start c₃ ∷ []) (without k (λ i. true))
      none zero h t = u.second_end 0 (put_first 1 (point_of b b') _ (put_second 3 _ (triangle_of c₁ c₁' c₂ c₂' c₃ c₃' 0) (drop_first (at_start a ∷ at_start b ∷ []) _ 0 (omega arith) t)))
      none (suc zero) h t = u.first_end 0 (put_first 1 (point_of a a') _ (put_second 3 _ (triangle_of c₁ c₁' c₂ c₂' c₃ c₃' 0) (drop_first (at_start a ∷ at_start b ∷ []) _ 1 (omega arith) t)))
      none (suc (suc zero)) h t = u.middle_high 0 0 (put_first 2 (edge_of a a' b b' 0) _ (put_second 2 _ (edge_of c₂ c₂' c₃ c₃' 0) (drop_second (at_start a ∷ at_start b ∷ []) (at_start c₁ ∷ at_start c₂ ∷ at_start c₃ ∷ []) 0 (omega arith) t)))
      none (suc (suc (suc zero))) h t = u.low_high 0 0 (put_first 2 (edge_of a a' b b' 0) _ (put_second 2 _ (edge_of c₁ c₁' c₃ c₃' 0) (drop_second (at_start a ∷ at_start b ∷ []) (at_start c₁ ∷ at_start c₂ ∷ at_start c₃ ∷ []) 1 (omega arith) t)))
      none (suc (suc (suc (suc zero)))) h t = u.low_middle 0 0 (put_first 2 (edge_of a a' b b' 0) _ (put_second 2 _ (edge_of c₁ c₁' c₂ c₂' 0) (drop_second (at_start a ∷ at_start b ∷ []) (at_start c₁ ∷ at_start c₂ ∷ at_start c₃ ∷ []) 2 (omega arith) t)))
      none (suc (suc (suc (suc (suc k))))) h t = absurd (omega arith)

  loose_at_end : Loose (pos 1) a' b' c₁' c₂' c₃'
  unfolding Faces.without edge_of triangle_of
  loose_at_end = record { none = none }
    where
      none : (k : ℕ) → k < 5 → ¬ TouchIn (at_end a' ∷ at_end b' ∷ []) (at_end c₁' ∷ at_end c₂' ∷ at_end c₃' ∷ []) (without k (λ i. true))
      none zero h t = u.second_end 2 (put_first 0 (point_of b b') _ (put_second 0 _ (triangle_of c₁ c₁' c₂ c₂' c₃ c₃' 2) (drop_first (at_end a' ∷ at_end b' ∷ []) _ 0 (omega arith) t)))
      none (suc zero) h t = u.first_end 2 (put_first 0 (point_of a a') _ (put_second 0 _ (triangle_of c₁ c₁' c₂ c₂' c₃ c₃' 2) (drop_first (at_end a' ∷ at_end b' ∷ []) _ 1 (omega arith) t)))
      none (suc (suc zero)) h t = u.middle_high 1 1 (put_first 0 (edge_of a a' b b' 1) _ (put_second 0 _ (edge_of c₂ c₂' c₃ c₃' 1) (drop_second (at_end a' ∷ at_end b' ∷ []) (at_end c₁' ∷ at_end c₂' ∷ at_end c₃' ∷ []) 0 (omega arith) t)))
      none (suc (suc (suc zero))) h t = u.low_high 1 1 (put_first 0 (edge_of a a' b b' 1) _ (put_second 0 _ (edge_of c₁ c₁' c₃ c₃' 1) (drop_second (at_end a' ∷ at_end b' ∷ []) (at_end c₁' ∷ at_end c₂' ∷ at_end c₃' ∷ []) 1 (omega arith) t)))
      none (suc (suc (suc (suc zero)))) h t = u.low_middle 1 1 (put_first 0 (edge_of a a' b b' 1) _ (put_second 0 _ (edge_of c₁ c₁' c₂ c₂' 1) (drop_second (at_end a' ∷ at_end b' ∷ []) (at_end c₁' ∷ at_end c₂' ∷ at_end c₃' ∷ []) 2 (omega arith) t)))
      none (suc (suc (suc (suc (suc k))))) h t = absurd (omega arith)

-- ---- what is not touched stays so, piece by piece

-- a point and a triangle
module _ (p p' x x' y y' z z' r r' m m' n n' o o' : Vector) where
  abbrev point_blown : ℤ → List Event
  point_blown k = point_of (blown_to k p r) (blown_to k p' r')

  abbrev triangle_blown : ℤ → ℕ → List Event
  triangle_blown k j = triangle_of (blown_to k x m) (blown_to k x' m') (blown_to k y n) (blown_to k y' n') (blown_to k z o) (blown_to k z' o') j

  point_stays : ((k : ℕ) → ¬ Touch (point_of p p') (triangle_of x x' y y' z z' k)) → FromSomeOn (λ k. (j : ℕ) → ¬ Touch (point_blown k) (triangle_blown k j))
  unfolding triangle_of
  point_stays h =
      let f0 = untouched_stays (by (at_start p) r ∷ by (at_end p') r' ∷ []) (by (at_start x) m ∷ by (at_start y) n ∷ by (at_start z) o ∷ by (at_end z') o' ∷ []) (h 0) in
      let f1 = untouched_stays (by (at_start p) r ∷ by (at_end p') r' ∷ []) (by (at_start x) m ∷ by (at_start y) n ∷ by (at_end y') n' ∷ by (at_end z') o' ∷ []) (h 1) in
      let f2 = untouched_stays (by (at_start p) r ∷ by (at_end p') r' ∷ []) (by (at_start x) m ∷ by (at_end x') m' ∷ by (at_end y') n' ∷ by (at_end z') o' ∷ []) (h 2) in
      record { n = f0.n + f1.n + f2.n; from = λ k g. pieces (pos k) (f0.from k (omega arith)) (f1.from k (omega arith)) (f2.from k (omega arith)) }
    where
      pieces : (k : ℤ) → ¬ Touch (point_blown k) (triangle_blown k 0) → ¬ Touch (point_blown k) (triangle_blown k 1) → ¬ Touch (point_blown k) (triangle_blown k 2) → (j : ℕ) → ¬ Touch (point_blown k) (triangle_blown k j)
      pieces k e f g zero = e
      pieces k e f g (suc zero) = f
      pieces k e f g (suc (suc j)) = g

-- two edges
module _ (p p' q q' x x' y y' r r' s s' m m' n n' : Vector) where
  abbrev first_blown : ℤ → ℕ → List Event
  first_blown k i = edge_of (blown_to k p r) (blown_to k p' r') (blown_to k q s) (blown_to k q' s') i

  abbrev second_blown : ℤ → ℕ → List Event
  second_blown k j = edge_of (blown_to k x m) (blown_to k x' m') (blown_to k y n) (blown_to k y' n') j

  edges_stay : ((i j : ℕ) → ¬ Touch (edge_of p p' q q' i) (edge_of x x' y y' j)) → FromSomeOn (λ k. (i j : ℕ) → ¬ Touch (first_blown k i) (second_blown k j))
  unfolding edge_of
  edges_stay h =
      let a0 : List Nudged = by (at_start p) r ∷ by (at_start q) s ∷ by (at_end q') s' ∷ [] in
      let a1 : List Nudged = by (at_start p) r ∷ by (at_end p') r' ∷ by (at_end q') s' ∷ [] in
      let b0 : List Nudged = by (at_start x) m ∷ by (at_start y) n ∷ by (at_end y') n' ∷ [] in
      let b1 : List Nudged = by (at_start x) m ∷ by (at_end x') m' ∷ by (at_end y') n' ∷ [] in
      let f00 = untouched_stays a0 b0 (h 0 0) in
      let f01 = untouched_stays a0 b1 (h 0 1) in
      let f10 = untouched_stays a1 b0 (h 1 0) in
      let f11 = untouched_stays a1 b1 (h 1 1) in
      record { n = f00.n + f01.n + f10.n + f11.n; from = λ k g. pieces (pos k) (f00.from k (omega arith)) (f01.from k (omega arith)) (f10.from k (omega arith)) (f11.from k (omega arith)) }
    where
      pieces : (k : ℤ) → ¬ Touch (first_blown k 0) (second_blown k 0) → ¬ Touch (first_blown k 0) (second_blown k 1) → ¬ Touch (first_blown k 1) (second_blown k 0) → ¬ Touch (first_blown k 1) (second_blown k 1)
          → (i j : ℕ) → ¬ Touch (first_blown k i) (second_blown k j)
      pieces k e f g h zero zero = e
      pieces k e f g h zero (suc j) = f
      pieces k e f g h (suc i) zero = g
      pieces k e f g h (suc i) (suc j) = h

-- ---- the theorem

module _ {a a' b b' c₁ c₁' c₂ c₂' c₃ c₃' : Vector} (u : Untouched a a' b b' c₁ c₁' c₂ c₂' c₃ c₃') where
  abbrev Far : ℤ → Type 0
  Far k = Untouched (blown_to k a qa) (blown_to k a' qa') (blown_to k b qb) (blown_to k b' qb') (blown_to k c₁ q₁) (blown_to k c₁' q₁') (blown_to k c₂ q₂) (blown_to k c₂' q₂') (blown_to k c₃ q₃) (blown_to k c₃' q₃')

  abbrev StartAt : ℤ → Type 0
  StartAt k = AtTheStart (blown_to k a qa) (blown_to k a' qa') (blown_to k b qb) (blown_to k b' qb') (blown_to k c₁ q₁) (blown_to k c₁' q₁') (blown_to k c₂ q₂) (blown_to k c₂' q₂') (blown_to k c₃ q₃) (blown_to k c₃' q₃')

  abbrev EndAt : ℤ → Type 0
  EndAt k = AtTheEnd (blown_to k a qa) (blown_to k a' qa') (blown_to k b qb) (blown_to k b' qb') (blown_to k c₁ q₁) (blown_to k c₁' q₁') (blown_to k c₂ q₂) (blown_to k c₂' q₂') (blown_to k c₃ q₃) (blown_to k c₃' q₃')

  all_stays : FromSomeOn Far
  all_stays = record { n = fa.n + fb.n + f12.n + f13.n + f23.n; from = λ k h. record { first_end = fa.from k (omega arith); second_end = fb.from k (omega arith); low_middle = f12.from k (omega arith); low_high = f13.from k (omega arith); middle_high = f23.from k (omega arith) } }
    where
      fa : FromSomeOn (λ k. (j : ℕ) → ¬ Touch (point_of (blown_to k a qa) (blown_to k a' qa')) (triangle_of (blown_to k c₁ q₁) (blown_to k c₁' q₁') (blown_to k c₂ q₂) (blown_to k c₂' q₂') (blown_to k c₃ q₃) (blown_to k c₃' q₃') j))
      fa = point_stays a a' c₁ c₁' c₂ c₂' c₃ c₃' qa qa' q₁ q₁' q₂ q₂' q₃ q₃' u.first_end

      fb : FromSomeOn (λ k. (j : ℕ) → ¬ Touch (point_of (blown_to k b qb) (blown_to k b' qb')) (triangle_of (blown_to k c₁ q₁) (blown_to k c₁' q₁') (blown_to k c₂ q₂) (blown_to k c₂' q₂') (blown_to k c₃ q₃) (blown_to k c₃' q₃') j))
      fb = point_stays b b' c₁ c₁' c₂ c₂' c₃ c₃' qb qb' q₁ q₁' q₂ q₂' q₃ q₃' u.second_end

      f12 : FromSomeOn (λ k. (i j : ℕ) → ¬ Touch (edge_of (blown_to k a qa) (blown_to k a' qa') (blown_to k b qb) (blown_to k b' qb') i) (edge_of (blown_to k c₁ q₁) (blown_to k c₁' q₁') (blown_to k c₂ q₂) (blown_to k c₂' q₂') j))
      f12 = edges_stay a a' b b' c₁ c₁' c₂ c₂' qa qa' qb qb' q₁ q₁' q₂ q₂' u.low_middle

      f13 : FromSomeOn (λ k. (i j : ℕ) → ¬ Touch (edge_of (blown_to k a qa) (blown_to k a' qa') (blown_to k b qb) (blown_to k b' qb') i) (edge_of (blown_to k c₁ q₁) (blown_to k c₁' q₁') (blown_to k c₃ q₃) (blown_to k c₃' q₃') j))
      f13 = edges_stay a a' b b' c₁ c₁' c₃ c₃' qa qa' qb qb' q₁ q₁' q₃ q₃' u.low_high

      f23 : FromSomeOn (λ k. (i j : ℕ) → ¬ Touch (edge_of (blown_to k a qa) (blown_to k a' qa') (blown_to k b qb) (blown_to k b' qb') i) (edge_of (blown_to k c₂ q₂) (blown_to k c₂' q₂') (blown_to k c₃ q₃) (blown_to k c₃' q₃') j))
      f23 = edges_stay a a' b b' c₂ c₂' c₃ c₃' qa qa' qb qb' q₂ q₂' q₃ q₃' u.middle_high

  not_at_start : ¬ AtTheStart a a' b b' c₁ c₁' c₂ c₂' c₃ c₃' → FromSomeOn (λ k. ¬ StartAt k)
  not_at_start = untouched_stays (by (at_start a) qa ∷ by (at_start b) qb ∷ []) (by (at_start c₁) q₁ ∷ by (at_start c₂) q₂ ∷ by (at_start c₃) q₃ ∷ [])

  not_at_end : ¬ AtTheEnd a a' b b' c₁ c₁' c₂ c₂' c₃ c₃' → FromSomeOn (λ k. ¬ EndAt k)
  not_at_end = untouched_stays (by (at_end a') qa' ∷ by (at_end b') qb' ∷ []) (by (at_end c₁') q₁' ∷ by (at_end c₂') q₂' ∷ by (at_end c₃') q₃' ∷ [])

  far_clean : (k : ℕ) → all_stays.n + far_enough ≤ k → StartAt (pos k) ↔ EndAt (pos k)
  far_clean k h = general_clean (all_stays.from k (omega arith)) (nudged_general a a' b b' c₁ c₁' c₂ c₂' c₃ c₃' k (omega arith))

  clean_there : AtTheStart a a' b b' c₁ c₁' c₂ c₂' c₃ c₃' → AtTheEnd a a' b b' c₁ c₁' c₂ c₂' c₃ c₃'
  clean_there t = ⊎_elim (λ e. e) (λ n. absurd (never n)) (touch_or_not (at_end a' ∷ at_end b' ∷ []) (at_end c₁' ∷ at_end c₂' ∷ at_end c₃' ∷ []))
    where
      never : ¬ AtTheEnd a a' b b' c₁ c₁' c₂ c₂' c₃ c₃' → ⊥
      never n =
          let s = proper_stays (pos 0) a b c₁ c₂ c₃ qa qb q₁ q₂ q₃ (loose_at_start u) t in
          let e = not_at_end n in
          let k : ℕ = s.n + e.n + all_stays.n + far_enough in
          e.from k (omega arith) ((far_clean k (omega arith)).0 (s.from k (omega arith)))

  clean_back : AtTheEnd a a' b b' c₁ c₁' c₂ c₂' c₃ c₃' → AtTheStart a a' b b' c₁ c₁' c₂ c₂' c₃ c₃'
  clean_back t = ⊎_elim (λ e. e) (λ n. absurd (never n)) (touch_or_not (at_start a ∷ at_start b ∷ []) (at_start c₁ ∷ at_start c₂ ∷ at_start c₃ ∷ []))
    where
      never : ¬ AtTheStart a a' b b' c₁ c₁' c₂ c₂' c₃ c₃' → ⊥
      never n =
          let s = proper_stays (pos 1) a' b' c₁' c₂' c₃' qa' qb' q₁' q₂' q₃' (loose_at_end u) t in
          let e = not_at_start n in
          let k : ℕ = s.n + e.n + all_stays.n + far_enough in
          e.from k (omega arith) ((far_clean k (omega arith)).1 (s.from k (omega arith)))

  -- pierced at the start exactly when pierced at the end
  pub stays_clean : AtTheStart a a' b b' c₁ c₁' c₂ c₂' c₃ c₃' ↔ AtTheEnd a a' b b' c₁ c₁' c₂ c₂' c₃ c₃'
  stays_clean = (clean_there, clean_back)
