-- Laws of `determinant`, by cofactors along the first row, for rows and columns of any number: two neighbouring columns in each other's place
-- turn its sign (where it is square), and so do the first two rows.
use Rattle.std.specs.Prelude.{◌≡◌, pos, ◌-ℤ◌, ◌*ℤ◌, length}
use Rattle.std.proofs.Math.Path.{refl, sym, ap, fun_ext}
use Rattle.std.proofs.Common.{◌∙◌, arith}
use mathlib.Core.List.{List, [], ◌∷◌, ◌++◌, map}
use Prim.Native.Nat.{suc}
use Rattle.std.proofs.Math.IntN.{ℤ, neg_ℤ, *ℤ-zero, neg_ℤ-neg_ℤ}
use Rattle.whole.specs.Quote.{quotes, ring, combine, times}
use Rattle.meaning.specs.Equations.{expand, determinant}

-- ---- the steps, over numbers

spread : (h a b c d e : ℤ) → a *ℤ (h *ℤ b -ℤ c) -ℤ (h *ℤ d -ℤ e) ≡ h *ℤ (a *ℤ b -ℤ d) -ℤ (a *ℤ c -ℤ e)
spread h a b c d e = ring (h ∷ a ∷ b ∷ c ∷ d ∷ e ∷ []) (search quotes depth 40 fits 9000) refl

-- a is -b
pub record Opposite (a b : ℤ) : Type 0 where
  pub is : a ≡ neg_ℤ b

pub opposite_by : {a b x y : ℤ} → x ≡ a → y ≡ b → Opposite a b → Opposite x y
opposite_by p q o = record { is = p ∙ o.is ∙ ap neg_ℤ (sym q) }

turn : (a : ℤ) {b c d e : ℤ} → Opposite b c → Opposite d e → Opposite (a *ℤ b -ℤ d) (a *ℤ c -ℤ e)
turn a {b} {c} {d} {e} p q = record {
  is = combine (a ∷ b ∷ c ∷ d ∷ e ∷ []) (times a p.is ∷ times (neg_ℤ (pos 1)) q.is ∷ []) (search quotes depth 40 fits 9000) refl;
}

cross : (a b m n : ℤ) {d e : ℤ} → Opposite d e → Opposite (a *ℤ m -ℤ (b *ℤ n -ℤ d)) (b *ℤ n -ℤ (a *ℤ m -ℤ e))
cross a b m n {d} {e} p = record {
  is = combine (a ∷ b ∷ m ∷ n ∷ d ∷ e ∷ []) (times (pos 1) p.is ∷ []) (search quotes depth 40 fits 9000) refl;
}

negate : (a b : ℤ) {d e : ℤ} → Opposite d e → Opposite (neg_ℤ a *ℤ b -ℤ d) (a *ℤ b -ℤ e)
negate a b {d} {e} p = record {
  is = combine (a ∷ b ∷ d ∷ e ∷ []) (times (neg_ℤ (pos 1)) p.is ∷ []) (search quotes depth 40 fits 9000) refl;
}

-- two neighbours in each other's place, somewhere in the list
pub data Exchanged {ℓ} {A : Type ℓ} : List A → List A → Type ℓ where
  front : {a b : A} {l : List A} → Exchanged (a ∷ b ∷ l) (b ∷ a ∷ l)
  behind : {a : A} {l m : List A} → Exchanged l m → Exchanged (a ∷ l) (a ∷ m)

module _ {ℓ} {A : Type ℓ} where
  -- ---- expanding along a row

  -- a column that is passed may be put back by the minor
  pub passed_first : (r : A → ℤ) (m : List A → ℤ) (c : A) (p q : List A) → expand r m (c ∷ p) q ≡ expand r (λ k. m (c ∷ k)) p q
  unfolding expand
  passed_first r m c p [] = refl
  passed_first r m c p (d ∷ q) = ap (λ n. r d *ℤ m (c ∷ (p ++ q)) -ℤ n) (passed_first r m c (p ++ (d ∷ [])) q)

  pub expand_first : (r : A → ℤ) (m : List A → ℤ) (c : A) (q : List A) → expand r m [] (c ∷ q) ≡ r c *ℤ m q -ℤ expand r (λ k. m (c ∷ k)) [] q
  unfolding expand
  expand_first r m c q = ap (λ n. r c *ℤ m q -ℤ n) (passed_first r m c [] q)

  pub expand_second : (r : A → ℤ) (m : List A → ℤ) (c d : A) (q : List A) → expand r m [] (c ∷ d ∷ q) ≡ r c *ℤ m (d ∷ q) -ℤ (r d *ℤ m (c ∷ q) -ℤ expand r (λ k. m (c ∷ d ∷ k)) [] q)
  expand_second r m c d q =
      expand_first r m c (d ∷ q) ∙ ap (λ n. r c *ℤ m (d ∷ q) -ℤ n) (expand_first r (λ k. m (c ∷ k)) d q)

  -- linear in the minors
  pub expand_linear : (r : A → ℤ) (h : ℤ) (m n : List A → ℤ) (p q : List A) → expand r (λ k. h *ℤ m k -ℤ n k) p q ≡ h *ℤ expand r m p q -ℤ expand r n p q
  unfolding expand
  expand_linear r h m n p [] = rw *ℤ-zero
  expand_linear r h m n p (c ∷ q) =
      let p' = p ++ (c ∷ []) in
      ap (λ e. r c *ℤ (h *ℤ m (p ++ q) -ℤ n (p ++ q)) -ℤ e) (expand_linear r h m n p' q)
      ∙ spread h (r c) (m (p ++ q)) (n (p ++ q)) (expand r m p' q) (expand r n p' q)

  -- minors of the size that is met turn their sign
  pub expand_turned : (r : A → ℤ) (m n : List A → ℤ) (q : List A) → ((k : List A) → suc (length k) ≡ length q → Opposite (m k) (n k)) → Opposite (expand r m [] q) (expand r n [] q)
  expand_turned r m n [] h = unfold expand in record { is = refl }
  expand_turned r m n (c ∷ q) h =
      opposite_by (expand_first r m c q) (expand_first r n c q)
      (turn (r c) (h q refl) (expand_turned r (λ k. m (c ∷ k)) (λ k. n (c ∷ k)) q (λ k e. h (c ∷ k) (ap suc e))))

  -- ---- two neighbouring columns

  pub expand_exchanged : (r : A → ℤ) (m : List A → ℤ) (k l : List A) → Exchanged k l → ((x y : List A) → Exchanged x y → suc (length x) ≡ length k → Opposite (m x) (m y)) → Opposite (expand r m [] k) (expand r m [] l)
  expand_exchanged r m k l (front {a} {b} {l = q}) t =
      opposite_by (expand_second r m a b q) (expand_second r m b a q)
      (cross (r a) (r b) (m (b ∷ q)) (m (a ∷ q))
      (expand_turned r (λ k. m (a ∷ b ∷ k)) (λ k. m (b ∷ a ∷ k)) q (λ k e. t (a ∷ b ∷ k) (b ∷ a ∷ k) front (ap suc (ap suc e)))))
  expand_exchanged r m k l (behind {a = c} {l = x} {m = y} e) t =
      opposite_by (expand_first r m c x) (expand_first r m c y)
      (turn (r c) (t x y e refl) (expand_exchanged r (λ k. m (c ∷ k)) x y e (λ u v f g. t (c ∷ u) (c ∷ v) (behind f) (ap suc g))))

  pub columns_exchanged : (rows : List (A → ℤ)) (k l : List A) → Exchanged k l → length k ≡ length rows → Opposite (determinant rows k) (determinant rows l)
  unfolding determinant
  columns_exchanged [] [] l e h = elim e [ ]
  columns_exchanged [] (a ∷ k) l e h = absurd (omega arith)
  columns_exchanged (r ∷ rows) k l e h =
      expand_exchanged r (determinant rows) k l e (λ x y f g. columns_exchanged rows x y f (omega arith))

  -- ---- the first two rows

  pub pair_first : (r s : A → ℤ) (m : List A → ℤ) (c : A) (q : List A) → expand r (expand s m []) [] (c ∷ q) ≡ r c *ℤ expand s m [] q -ℤ (s c *ℤ expand r m [] q -ℤ expand r (expand s (λ k. m (c ∷ k)) []) [] q)
  pair_first r s m c q =
      expand_first r (expand s m []) c q
      ∙ ap (λ (n : List A → ℤ). r c *ℤ expand s m [] q -ℤ expand r n [] q) (fun_ext (expand_first s m c))
      ∙ ap (λ n. r c *ℤ expand s m [] q -ℤ n) (expand_linear r (s c) m (expand s (λ k. m (c ∷ k)) []) [] q)

  pub pair_exchanged : (r s : A → ℤ) (m : List A → ℤ) (q : List A) → Opposite (expand r (expand s m []) [] q) (expand s (expand r m []) [] q)
  pair_exchanged r s m [] = unfold expand in record { is = refl }
  pair_exchanged r s m (c ∷ q) =
      opposite_by (pair_first r s m c q) (pair_first s r m c q)
      (cross (r c) (s c) (expand s m [] q) (expand r m [] q) (pair_exchanged r s (λ k. m (c ∷ k)) q))

  pub rows_exchanged : (r s : A → ℤ) (rows : List (A → ℤ)) (q : List A) → Opposite (determinant (r ∷ s ∷ rows) q) (determinant (s ∷ r ∷ rows) q)
  unfolding determinant
  rows_exchanged r s rows q = pair_exchanged r s (determinant rows) q

  pub row_negated : (r : A → ℤ) (m : List A → ℤ) (q : List A) → Opposite (expand (λ c. neg_ℤ (r c)) m [] q) (expand r m [] q)
  row_negated r m [] = unfold expand in record { is = refl }
  row_negated r m (c ∷ q) =
      opposite_by (expand_first (λ c. neg_ℤ (r c)) m c q) (expand_first r m c q)
      (negate (r c) (m q) (row_negated r (λ k. m (c ∷ k)) q))

  pub rows_negated : (r s : A → ℤ) (rows : List (A → ℤ)) (q : List A) → determinant ((λ c. neg_ℤ (r c)) ∷ (λ c. neg_ℤ (s c)) ∷ rows) q ≡ determinant (r ∷ s ∷ rows) q
  unfolding determinant
  rows_negated r s rows q =
      let m : List A → ℤ = determinant rows in
      let n : List A → ℤ = expand (λ c. neg_ℤ (s c)) m [] in
      (row_negated r n q).is ∙ ap neg_ℤ (expand_turned r n (expand s m []) q (λ k e. row_negated s m k)).is ∙ neg_ℤ-neg_ℤ (expand r (expand s m []) [] q)

  -- rows below two others, of the same determinant at all columns
  pub rows_below : (r s : A → ℤ) (rows rows' : List (A → ℤ)) → ((q : List A) → determinant rows q ≡ determinant rows' q) → (q : List A) → determinant (r ∷ s ∷ rows) q ≡ determinant (r ∷ s ∷ rows') q
  unfolding determinant
  rows_below r s rows rows' h q = ap (λ (m : List A → ℤ). expand r (expand s m []) [] q) (fun_ext h)

-- the determinant of columns that g makes is the one of rows that make them by g
abbrev pub through {ℓ κ} : {A : Type ℓ} {B : Type κ} → (A → B) → (B → ℤ) → A → ℤ
through g r c = r (g c)

module _ {ℓ κ} {A : Type ℓ} {B : Type κ} (g : A → B) where
  pub expand_mapped : (r : B → ℤ) (m : List B → ℤ) (q : List A) → expand r m [] (map g q) ≡ expand (through g r) (λ k. m (map g k)) [] q
  expand_mapped r m [] = unfold expand in refl
  expand_mapped r m (c ∷ q) =
      expand_first r m (g c) (map g q) ∙ ap (λ n. r (g c) *ℤ m (map g q) -ℤ n) (expand_mapped r (λ k. m (g c ∷ k)) q)
      ∙ sym (expand_first (through g r) (λ k. m (map g k)) c q)

  pub columns_mapped : (rows : List (B → ℤ)) (q : List A) → determinant rows (map g q) ≡ determinant (map (through g) rows) q
  unfolding determinant
  columns_mapped [] q = refl
  columns_mapped (r ∷ rows) q =
      expand_mapped r (determinant rows) q ∙ ap (λ (m : List A → ℤ). expand (through g r) m [] q) (fun_ext (columns_mapped rows))
