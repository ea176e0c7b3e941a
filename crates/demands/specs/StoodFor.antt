-- 'Sharing and corner order now go by the vertex stood for', of document 02: a pair shares a vertex exactly when a vertex of the one part stands for
-- the vertex that one of the other stands for; and in an accepted scene the ends of an edge and the corners of a triangle rise so.
use Rattle.std.specs.Prelude.{ℕ, ◌<◌, Bool, ◌||◌, ◌↔◌, ◌⊎◌, ◌≡◌}
use Rattle.std.proofs.Math.Bool.{true, false}
use Rattle.std.proofs.Common.{true≢false, inl, inr, sym, ◌∙◌, ap, subst}
use mathlib.Core.List.{List, [], ◌∷◌, Memᴰ}
use Rattle.std.proofs.Math.Path.{refl}
use borrow.Author.Tests.{eqb-true, eq-eqb}
use Rattle.meaning.specs.Scene.{Scene, Accepted, edge_count, triangle_count, edge_end, corner, counts_as, same, ends_of, corners_of}
use Rattle.meaning.specs.Refusals.{shares}
use Rattle.meaning.specs.declared.Ends.{Ends}
use Rattle.meaning.specs.declared.Corners.{Corners}
use Rattle.meaning.specs.declared.Kind.TheVariants.{PointTriangle, EdgeEdge}
use Rattle.theory.specs.Written.{Lower, lower_or_higher, rising_lower, rising_higher, corners, six_orders, ends_written, corners_written}
use Rattle.theory.specs.AnyOrder.{any, shares_corners, shares_ends}
use Rattle.sequences.specs.Pick.{or_true}
use Rattle.demands.specs.StillAccepted.{different_ends, different_corners}

-- ---- sharing

-- a vertex of the list that stands for the same vertex as v
pub record OneAsGood (s : Scene) (v : ℕ) (l : List ℕ) : Type 0 where
  pub which : ℕ
  pub there : Memᴰ which l
  pub one : counts_as s v ≡ counts_as s which

-- two vertices, one of each list, that stand for the same vertex
pub record TwoAsOne (s : Scene) (k l : List ℕ) : Type 0 where
  pub which : ℕ
  pub there : Memᴰ which k
  pub good : OneAsGood s which l

module _ (s : Scene) where
  some_as_good : (v : ℕ) (l : List ℕ) → any (same s v) l ≡ true → OneAsGood s v l
  unfolding any
  some_as_good v [] h = absurd (true≢false (sym h))
  some_as_good v (c ∷ l) h = go (same s v c) refl h (some_as_good v l)
    where
      go : (b : Bool) → same s v c ≡ b → b || any (same s v) l ≡ true → (any (same s v) l ≡ true → OneAsGood s v l) → OneAsGood s v (c ∷ l)
      go true e h rest = record { which = c; there = Memᴰ.head refl; one = eqb-true (counts_as s v) (counts_as s c) e }
      go false e h rest = let r = rest h in record { which = r.which; there = Memᴰ.tail r.there; one = r.one }

  found : (test : ℕ → Bool) (c : ℕ) (l : List ℕ) → Memᴰ c l → test c ≡ true → any test l ≡ true
  unfolding any
  found test c [] x'' h = elim x'' [ ]
  found test c (a ∷ l) (Memᴰ.head e) h = rw (ap test (sym e) ∙ h)
  found test c (a ∷ l) (Memᴰ.tail m) h = or_true (test a) (any test l) (found test c l m h)

  as_good : (v : ℕ) (l : List ℕ) → OneAsGood s v l → any (same s v) l ≡ true
  as_good v l r = found (same s v) r.which l r.there (eq-eqb (counts_as s v) (counts_as s r.which) r.one)

  -- a vertex and a triangle
  pub vertex_shared : (v j : ℕ) → (shares s PointTriangle v j ≡ true) ↔ OneAsGood s v (corners_written s j)
  vertex_shared v j = (
    λ h. some_as_good v (corners_written s j) (sym (shares_corners s v j) ∙ h),
    λ r. shares_corners s v j ∙ as_good v (corners_written s j) r,
  )

  two_as_one : (k l : List ℕ) → any (λ a. any (same s a) l) k ≡ true → TwoAsOne s k l
  unfolding any
  two_as_one [] l h = absurd (true≢false (sym h))
  two_as_one (a ∷ k) l h = go (any (same s a) l) refl h (two_as_one k l)
    where
      go : (b : Bool) → any (same s a) l ≡ b → b || any (λ c. any (same s c) l) k ≡ true → (any (λ c. any (same s c) l) k ≡ true → TwoAsOne s k l)
          → TwoAsOne s (a ∷ k) l
      go true e h rest = record { which = a; there = Memᴰ.head refl; good = some_as_good a l e }
      go false e h rest = let r = rest h in record { which = r.which; there = Memᴰ.tail r.there; good = r.good }

  -- two edges
  pub edges_shared : (i j : ℕ) → (shares s EdgeEdge i j ≡ true) ↔ TwoAsOne s (ends_written s i) (ends_written s j)
  edges_shared i j = (
    λ h. two_as_one (ends_written s i) (ends_written s j) (sym (shares_ends s i j) ∙ h),
    λ r.
        shares_ends s i j
        ∙ found (λ a. any (same s a) (ends_written s j)) r.which (ends_written s i) r.there (as_good r.which (ends_written s j) r.good),
  )

-- ---- the order of ends and corners

pub record Rise (s : Scene) (c : Corners) : Type 0 where
  pub lower : counts_as s c.low < counts_as s c.middle
  pub upper : counts_as s c.middle < counts_as s c.high

pub ends_rise : {s : Scene} → Accepted s → (j : ℕ) → j < edge_count s → counts_as s (ends_of s j).low < counts_as s (ends_of s j).high
ends_rise {s} a j h = go (lower_or_higher s (edge_end s j 0) (edge_end s j 1) (different_ends a j h).0.0)
  where
    Goal : Ends → Type 0
    Goal e = Lower s e.low e.high

    go : Lower s (edge_end s j 0) (edge_end s j 1) ⊎ Lower s (edge_end s j 1) (edge_end s j 0) → Goal (ends_of s j)
    go (inl l) = subst Goal (sym (rising_lower s (edge_end s j 0) (edge_end s j 1) l)) l
    go (inr l) = subst Goal (sym (rising_higher s (edge_end s j 1) (edge_end s j 0) l)) l

three_rise : (s : Scene) (a b c : ℕ) → same s a b ≡ false → same s b c ≡ false → same s a c ≡ false → Rise s (corners s a b c)
three_rise s a b c ab bc ac = go (lower_or_higher s a b ab) (lower_or_higher s b c bc) (lower_or_higher s a c ac)
  where
    rise : (x y z : ℕ) → Lower s x y → Lower s y z → {k : Corners} → k ≡ record { low = x; middle = y; high = z } → Rise s k
    rise x y z l u e = subst (Rise s) (sym e) (record { lower = l; upper = u })

    go : Lower s a b ⊎ Lower s b a → Lower s b c ⊎ Lower s c b → Lower s a c ⊎ Lower s c a → Rise s (corners s a b c)
    go (inl p) (inl q) r = rise a b c p q (six_orders s a b c p q).xyz
    go (inl p) (inr q) (inl r) = rise a c b r q (six_orders s a c b r q).xzy
    go (inl p) (inr q) (inr r) = rise c a b r p (six_orders s c a b r p).yzx
    go (inr p) (inl q) (inl r) = rise b a c p r (six_orders s b a c p r).yxz
    go (inr p) (inl q) (inr r) = rise b c a q r (six_orders s b c a q r).zxy
    go (inr p) (inr q) r = rise c b a q p (six_orders s c b a q p).zyx

pub corners_rise : {s : Scene} → Accepted s → (j : ℕ) → j < triangle_count s → Rise s (corners_of s j)
corners_rise {s} a j h =
    let d = different_corners a j h in
    three_rise s (corner s j 0) (corner s j 1) (corner s j 2) d.0.0 d.1.0.0 d.0.1.0
