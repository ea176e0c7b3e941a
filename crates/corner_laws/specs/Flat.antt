-- Vectors that depend on one another, with the numbers that show it: one that is the origin, two whose cross product is, three whose volume
-- is 0.
use Rattle.std.specs.Prelude.{◌≡◌, refl, ◌≢◌, ◌⊎◌, ℕ, zero, suc, pos, negsuc, neg_ℤ, nat_abs, ◌-ℤ◌, ◌*ℤ◌}
use Rattle.std.proofs.Common.{sym, ◌∙◌, ap, inl, inr, ⊎_elim, arith}
use mathlib.Core.List.{List, [], ◌∷◌}
use Rattle.std.proofs.Math.IntN.{ℤ, neg_ℤ-neg_ℤ, +ℤ_idr, +ℤ_idl, zero-*ℤ}
use Rattle.whole.specs.Vector.{Vector, origin, plus, scale, volume, axis}
use Rattle.whole.specs.VectorLaws.{vector_eq, coordinates, cross}
use Rattle.whole.specs.Quote.{quotes, ring, combine, times}
use Rattle.whole.specs.Cramer.{balance}

pub zero_or : (z : ℤ) → (z ≡ pos 0) ⊎ (z ≢ pos 0)
zero_or (pos zero) = inl refl
zero_or (pos (suc n)) = inr (λ e. let k = ap nat_abs e in omega arith)
zero_or (negsuc n) = inr (λ e. let k = ap nat_abs e in omega arith)

negated_some : {z : ℤ} → z ≢ pos 0 → neg_ℤ z ≢ pos 0
negated_some {z} n e = n (sym (neg_ℤ-neg_ℤ z) ∙ ap neg_ℤ e)

-- ---- two

pub record Two (a b : Vector) : Type 0 where
  pub x : ℤ
  pub y : ℤ
  pub is : plus (scale x a) (scale y b) ≡ origin
  pub some : (x ≢ pos 0) ⊎ (y ≢ pos 0)

module _ (a b : Vector) (h : cross a b ≡ origin) where
  abbrev letters : List ℤ
  letters = coordinates (a ∷ b ∷ [])

  hx : a.y *ℤ b.z -ℤ a.z *ℤ b.y ≡ pos 0
  hx = ap (λ (v : Vector). v.x) h

  hy : a.z *ℤ b.x -ℤ a.x *ℤ b.z ≡ pos 0
  hy = ap (λ (v : Vector). v.y) h

  hz : a.x *ℤ b.y -ℤ a.y *ℤ b.x ≡ pos 0
  hz = ap (λ (v : Vector). v.z) h

  by_x : plus (scale b.x a) (scale (neg_ℤ a.x) b) ≡ origin
  by_x = vector_eq
      (ring letters (search quotes depth 40 fits 9000) refl)
      (combine letters (times (negsuc 0) hz ∷ []) (search quotes depth 40 fits 9000) refl)
      (combine letters (times (pos 1) hy ∷ []) (search quotes depth 40 fits 9000) refl)

  by_y : plus (scale b.y a) (scale (neg_ℤ a.y) b) ≡ origin
  by_y = vector_eq
      (combine letters (times (pos 1) hz ∷ []) (search quotes depth 40 fits 9000) refl)
      (ring letters (search quotes depth 40 fits 9000) refl)
      (combine letters (times (negsuc 0) hx ∷ []) (search quotes depth 40 fits 9000) refl)

  by_z : plus (scale b.z a) (scale (neg_ℤ a.z) b) ≡ origin
  by_z = vector_eq
      (combine letters (times (negsuc 0) hy ∷ []) (search quotes depth 40 fits 9000) refl)
      (combine letters (times (pos 1) hx ∷ []) (search quotes depth 40 fits 9000) refl)
      (ring letters (search quotes depth 40 fits 9000) refl)

  pub flat₂ : Two a b
  flat₂ = go (zero_or a.x) (zero_or a.y) (zero_or a.z)
    where
      still : a.x ≡ pos 0 → a.y ≡ pos 0 → a.z ≡ pos 0 → plus (scale (pos 1) a) (scale (pos 0) b) ≡ origin
      still p q r = vector_eq
          (combine letters (times (pos 1) p ∷ []) (search quotes depth 40 fits 9000) refl)
          (combine letters (times (pos 1) q ∷ []) (search quotes depth 40 fits 9000) refl)
          (combine letters (times (pos 1) r ∷ []) (search quotes depth 40 fits 9000) refl)

      go : (a.x ≡ pos 0) ⊎ (a.x ≢ pos 0) → (a.y ≡ pos 0) ⊎ (a.y ≢ pos 0) → (a.z ≡ pos 0) ⊎ (a.z ≢ pos 0) → Two a b
      go (inr n) q r = record { x = b.x; y = neg_ℤ a.x; is = by_x; some = inr (negated_some n) }
      go (inl p) (inr n) r = record { x = b.y; y = neg_ℤ a.y; is = by_y; some = inr (negated_some n) }
      go (inl p) (inl q) (inr n) = record { x = b.z; y = neg_ℤ a.z; is = by_z; some = inr (negated_some n) }
      go (inl p) (inl q) (inl r) = record { x = pos 1; y = pos 0; is = still p q r; some = inl (λ e. let k = ap nat_abs e in omega arith) }

-- ---- three

pub record Three (a b c : Vector) : Type 0 where
  pub x : ℤ
  pub y : ℤ
  pub z : ℤ
  pub is : plus (plus (scale x a) (scale y b)) (scale z c) ≡ origin
  pub some : (x ≢ pos 0) ⊎ ((y ≢ pos 0) ⊎ (z ≢ pos 0))

-- the coordinates of a cross product, and of a vector, as volumes with axes
module _ (a b : Vector) where
  pub across : volume a b (axis 0) ≡ pos 0 → volume a b (axis 1) ≡ pos 0 → volume a b (axis 2) ≡ pos 0 → cross a b ≡ origin
  unfolding volume axis
  across p q r = vector_eq
      (combine letters (times (pos 1) p ∷ []) (search quotes depth 40 fits 9000) refl)
      (combine letters (times (pos 1) q ∷ []) (search quotes depth 40 fits 9000) refl)
      (combine letters (times (pos 1) r ∷ []) (search quotes depth 40 fits 9000) refl)
    where
      letters : List ℤ
      letters = coordinates (a ∷ b ∷ [])

pub still : (a : Vector) → volume a (axis 0) (axis 1) ≡ pos 0 → volume a (axis 1) (axis 2) ≡ pos 0 → volume a (axis 2) (axis 3) ≡ pos 0 → a ≡ origin
unfolding volume axis
still a p q r = vector_eq
    (combine letters (times (pos 1) q ∷ []) (search quotes depth 40 fits 9000) refl)
    (combine letters (times (pos 1) r ∷ []) (search quotes depth 40 fits 9000) refl)
    (combine letters (times (pos 1) p ∷ []) (search quotes depth 40 fits 9000) refl)
  where
    letters : List ℤ
    letters = coordinates (a ∷ [])

pub plus_none : (u v : Vector) → v ≡ origin → plus u v ≡ u
plus_none u v h = rw h (vector_eq (+ℤ_idr u.x) (+ℤ_idr u.y) (+ℤ_idr u.z))

pub none_plus : (u v : Vector) → u ≡ origin → plus u v ≡ v
none_plus u v h = rw h (vector_eq (+ℤ_idl v.x) (+ℤ_idl v.y) (+ℤ_idl v.z))

pub scale_none : (n : ℤ) (v : Vector) → n ≡ pos 0 → scale n v ≡ origin
scale_none n v h = rw h (vector_eq (zero-*ℤ v.x) (zero-*ℤ v.y) (zero-*ℤ v.z))

module _ (a b c : Vector) (h : volume a b c ≡ pos 0) where
  along : (g : ℕ) → volume a b (axis g) ≢ pos 0 → Three a b c
  along g n = record {
    x = volume b c (axis g);
    y = neg_ℤ (volume a c (axis g));
    z = volume a b (axis g);
    is = sym (plus_none _ _ (scale_none (neg_ℤ (volume a b c)) (axis g) (ap neg_ℤ h))) ∙ balance (record { v0 = a; v1 = b; v2 = c; v3 = axis g });
    some = inr (inr n);
  }

  flat : Two a b → Three a b c
  flat t = record {
    x = t.x;
    y = t.y;
    z = pos 0;
    is = plus_none _ _ (scale_none (pos 0) c refl) ∙ t.is;
    some = ⊎_elim inl (λ n. inr (inl n)) t.some;
  }

  pub flat₃ : Three a b c
  flat₃ = go (zero_or (volume a b (axis 0))) (zero_or (volume a b (axis 1))) (zero_or (volume a b (axis 2)))
    where
      go : (volume a b (axis 0) ≡ pos 0) ⊎ (volume a b (axis 0) ≢ pos 0) → (volume a b (axis 1) ≡ pos 0) ⊎ (volume a b (axis 1) ≢ pos 0) → (volume a b (axis 2) ≡ pos 0) ⊎ (volume a b (axis 2) ≢ pos 0) → Three a b c
      go (inr n) q r = along 0 n
      go (inl p) (inr n) r = along 1 n
      go (inl p) (inl q) (inr n) = along 2 n
      go (inl p) (inl q) (inl r) = flat (flat₂ a b (across a b p q r))
