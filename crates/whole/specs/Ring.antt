-- A normaliser for polynomials over ℤ: an identity of the ring holds if both sides have the same normal form, which is
-- settled by computing. A polynomial is its terms, the monomials in order; a monomial is its variables, rising.
use Rattle.std.specs.Prelude.{◌≡◌, refl, List, [], ◌∷◌, T, get_or, ℤ, pos, negsuc, neg_ℤ, ◌+ℤ◌, ◌*ℤ◌}
use Rattle.std.proofs.Common.{sym, ◌∙◌, ap, subst, eqb→eq}
use Prim.Native.Nat.{ℕ, zero, suc, compare, Ordering}
use Rattle.std.proofs.Math.Dec.{compare_is_eq}
use Rattle.std.proofs.Math.IntN.{+ℤ_idl, +ℤ_idr, +ℤ_assoc, neg_ℤ-+ℤ, zero-*ℤ, *ℤ-zero}
use Rattle.whole.specs.Laws.{swap_first, swap_inner, *ℤ_distr, *ℤ_distl, *ℤ_assoc, *ℤ_idr, *ℤ_idl, negℤ_*ℤ, *ℤ_swap_first, *ℤ_swap_inner}

pub data Expr : Type 0 where
  con : ℤ → Expr
  var : ℕ → Expr
  add : Expr → Expr → Expr
  mul : Expr → Expr → Expr
  neg : Expr → Expr

pub data Poly : Type 0 where
  nil : Poly
  term : ℤ → List ℕ → Poly → Poly

-- ---- what an expression, a monomial and a polynomial are worth, at an environment

abbrev pub at : List ℤ → ℕ → ℤ
at e i = get_or e i (pos 0)

abbrev pub eval : List ℤ → Expr → ℤ
eval e (con k) = k
eval e (var i) = at e i
eval e (add a b) = eval e a +ℤ eval e b
eval e (mul a b) = eval e a *ℤ eval e b
eval e (neg a) = neg_ℤ (eval e a)

abbrev pub mono : List ℤ → List ℕ → ℤ
mono e [] = pos 1
mono e (i ∷ []) = at e i
mono e (i ∷ j ∷ m) = at e i *ℤ mono e (j ∷ m)

abbrev pub value : List ℤ → Poly → ℤ
value e nil = pos 0
value e (term c m p) = c *ℤ mono e m +ℤ value e p

-- ---- the normal form

-- the order of monomials: a longer list stands before its prefix, so that a product with a monomial keeps the order
abbrev pub before : List ℕ → List ℕ → Ordering
before [] [] = Ordering.eq
before [] (j ∷ n) = Ordering.gt
before (i ∷ m) [] = Ordering.lt
before (i ∷ m) (j ∷ n) = elim (compare i j) [ Ordering.lt ↦ Ordering.lt | Ordering.eq ↦ before m n | Ordering.gt ↦ Ordering.gt ]

-- a product of monomials merges them
abbrev pub merge : ℕ → List ℕ → (List ℕ → List ℕ) → List ℕ → List ℕ
merge i m rest [] = i ∷ m
merge i m rest (j ∷ n) = elim (compare i j) [ Ordering.lt ↦ i ∷ rest (j ∷ n) | Ordering.eq ↦ i ∷ rest (j ∷ n) | Ordering.gt ↦ j ∷ merge i m rest n ]

abbrev pub mul_m : List ℕ → List ℕ → List ℕ
mul_m [] n = n
mul_m (i ∷ m) n = merge i m (mul_m m) n

-- no term has the coefficient 0
abbrev pub put : ℤ → List ℕ → Poly → Poly
put (pos zero) m p = p
put (pos (suc k)) m p = term (pos (suc k)) m p
put (negsuc k) m p = term (negsuc k) m p

abbrev pub add_t : ℤ → List ℕ → Poly → (Poly → Poly) → Poly → Poly
add_t c m p rest nil = term c m p
add_t c m p rest (term d n q) = elim (before m n) [
  | Ordering.lt ↦ term c m (rest (term d n q))
  | Ordering.eq ↦ put (c +ℤ d) m (rest q)
  | Ordering.gt ↦ term d n (add_t c m p rest q)
]

abbrev pub add_p : Poly → Poly → Poly
add_p nil q = q
add_p (term c m p) q = add_t c m p (add_p p) q

abbrev pub mul_t : ℤ → List ℕ → Poly → Poly
mul_t c m nil = nil
mul_t c m (term d n q) = term (c *ℤ d) (mul_m m n) (mul_t c m q)

abbrev pub mul_p : Poly → Poly → Poly
mul_p nil q = nil
mul_p (term c m p) q = add_p (mul_t c m q) (mul_p p q)

abbrev pub neg_p : Poly → Poly
neg_p nil = nil
neg_p (term c m p) = term (neg_ℤ c) m (neg_p p)

abbrev pub norm : Expr → Poly
norm (con k) = put k [] nil
norm (var i) = term (pos 1) (i ∷ []) nil
norm (add a b) = add_p (norm a) (norm b)
norm (mul a b) = mul_p (norm a) (norm b)
norm (neg a) = neg_p (norm a)

-- ---- the normal form is worth what the expression is worth

same_var : (i j : ℕ) → compare i j ≡ Ordering.eq → i ≡ j
same_var i j h = eqb→eq i j (subst (λ (o : Ordering). T (compare_is_eq o)) (sym h) tt)

same_mono : (m n : List ℕ) → before m n ≡ Ordering.eq → m ≡ n
same_mono [] [] h = refl
same_mono [] (j ∷ n) h = cc
same_mono (i ∷ m) [] h = cc
same_mono (i ∷ m) (j ∷ n) h = go (compare i j) refl h (same_mono m n)
  where
    go : (o : Ordering) → compare i j ≡ o → (elim o as (λ _. Ordering) [ Ordering.lt ↦ Ordering.lt | Ordering.eq ↦ before m n | Ordering.gt ↦ Ordering.gt ]) ≡ Ordering.eq → (before m n ≡ Ordering.eq → m ≡ n) → i ∷ m ≡ j ∷ n
    go Ordering.lt e h f = cc
    go Ordering.eq e h f = let v : i ≡ j = same_var i j e in let w : m ≡ n = f h in cc
    go Ordering.gt e h f = cc

module _ (e : List ℤ) where
  mono_cons : (i : ℕ) (m : List ℕ) → mono e (i ∷ m) ≡ at e i *ℤ mono e m
  mono_cons i [] = sym (*ℤ_idr (at e i))
  mono_cons i (j ∷ m) = refl

  merge_is : (i : ℕ) (m : List ℕ) (rest : List ℕ → List ℕ) → ((n : List ℕ) → mono e (rest n) ≡ mono e m *ℤ mono e n) → (n : List ℕ) → mono e (merge i m rest n) ≡ mono e (i ∷ m) *ℤ mono e n
  merge_is i m rest h [] = sym (*ℤ_idr (mono e (i ∷ m)))
  merge_is i m rest h (j ∷ n) = elim (compare i j) as (λ o. mono e (elim o as (λ _. List ℕ) [ Ordering.lt ↦ i ∷ rest (j ∷ n) | Ordering.eq ↦ i ∷ rest (j ∷ n) | Ordering.gt ↦ j ∷ merge i m rest n ]) ≡ mono e (i ∷ m) *ℤ mono e (j ∷ n))
      [ Ordering.lt ↦ here | Ordering.eq ↦ here | Ordering.gt ↦ there (merge_is i m rest h n) ]
    where
      here : mono e (i ∷ rest (j ∷ n)) ≡ mono e (i ∷ m) *ℤ mono e (j ∷ n)
      here = mono_cons i (rest (j ∷ n)) ∙ ap (λ x. at e i *ℤ x) (h (j ∷ n)) ∙ sym (*ℤ_assoc (at e i) (mono e m) (mono e (j ∷ n))) ∙ ap (λ x. x *ℤ mono e (j ∷ n)) (sym (mono_cons i m))

      there : mono e (merge i m rest n) ≡ mono e (i ∷ m) *ℤ mono e n → mono e (j ∷ merge i m rest n) ≡ mono e (i ∷ m) *ℤ mono e (j ∷ n)
      there k = mono_cons j (merge i m rest n) ∙ ap (λ x. at e j *ℤ x) k ∙ *ℤ_swap_first (at e j) (mono e (i ∷ m)) (mono e n) ∙ ap (λ x. mono e (i ∷ m) *ℤ x) (sym (mono_cons j n))

  mul_m_is : (m n : List ℕ) → mono e (mul_m m n) ≡ mono e m *ℤ mono e n
  mul_m_is [] n = sym (*ℤ_idl (mono e n))
  mul_m_is (i ∷ m) n = merge_is i m (mul_m m) (mul_m_is m) n

  put_is : (c : ℤ) (m : List ℕ) (p : Poly) → value e (put c m p) ≡ c *ℤ mono e m +ℤ value e p
  put_is (pos zero) m p = simp (zero-*ℤ, +ℤ_idl)
  put_is (pos (suc k)) m p = refl
  put_is (negsuc k) m p = refl

  add_t_is : (c : ℤ) (m : List ℕ) (p : Poly) (rest : Poly → Poly) → ((q : Poly) → value e (rest q) ≡ value e p +ℤ value e q) → (q : Poly) → value e (add_t c m p rest q) ≡ c *ℤ mono e m +ℤ value e p +ℤ value e q
  add_t_is c m p rest h nil = sym (+ℤ_idr (c *ℤ mono e m +ℤ value e p))
  add_t_is c m p rest h (term d n q) = go (before m n) refl (add_t_is c m p rest h q)
    where
      go : (o : Ordering) → before m n ≡ o → value e (add_t c m p rest q) ≡ c *ℤ mono e m +ℤ value e p +ℤ value e q →
          value e (elim o as (λ _. Poly) [ Ordering.lt ↦ term c m (rest (term d n q)) | Ordering.eq ↦ put (c +ℤ d) m (rest q) | Ordering.gt ↦ term d n (add_t c m p rest q) ]) ≡ c *ℤ mono e m +ℤ value e p +ℤ (d *ℤ mono e n +ℤ value e q)
      go Ordering.lt s k = ap (λ x. c *ℤ mono e m +ℤ x) (h (term d n q)) ∙ sym (+ℤ_assoc (c *ℤ mono e m) (value e p) (d *ℤ mono e n +ℤ value e q))
      go Ordering.eq s k =
          put_is (c +ℤ d) m (rest q) ∙ ap (λ x. (c +ℤ d) *ℤ mono e m +ℤ x) (h q) ∙ ap (λ x. x +ℤ (value e p +ℤ value e q)) (*ℤ_distr c d (mono e m))
          ∙ swap_inner (c *ℤ mono e m) (d *ℤ mono e m) (value e p) (value e q)
          ∙ ap (λ (l : List ℕ). c *ℤ mono e m +ℤ value e p +ℤ (d *ℤ mono e l +ℤ value e q)) (same_mono m n s)
      go Ordering.gt s k = ap (λ x. d *ℤ mono e n +ℤ x) k ∙ swap_first (d *ℤ mono e n) (c *ℤ mono e m +ℤ value e p) (value e q)

  add_p_is : (p q : Poly) → value e (add_p p q) ≡ value e p +ℤ value e q
  add_p_is nil q = sym (+ℤ_idl (value e q))
  add_p_is (term c m p) q = add_t_is c m p (add_p p) (add_p_is p) q

  mul_t_is : (c : ℤ) (m : List ℕ) (q : Poly) → value e (mul_t c m q) ≡ c *ℤ mono e m *ℤ value e q
  mul_t_is c m nil = sym (*ℤ-zero (c *ℤ mono e m))
  mul_t_is c m (term d n q) =
      ap (λ x. c *ℤ d *ℤ x +ℤ value e (mul_t c m q)) (mul_m_is m n) ∙ ap (λ x. c *ℤ d *ℤ (mono e m *ℤ mono e n) +ℤ x) (mul_t_is c m q)
      ∙ ap (λ x. x +ℤ c *ℤ mono e m *ℤ value e q) (*ℤ_swap_inner c d (mono e m) (mono e n)) ∙ sym (*ℤ_distl (c *ℤ mono e m) (d *ℤ mono e n) (value e q))

  mul_p_is : (p q : Poly) → value e (mul_p p q) ≡ value e p *ℤ value e q
  mul_p_is nil q = sym (zero-*ℤ (value e q))
  mul_p_is (term c m p) q =
      add_p_is (mul_t c m q) (mul_p p q) ∙ ap (λ x. x +ℤ value e (mul_p p q)) (mul_t_is c m q) ∙ ap (λ x. c *ℤ mono e m *ℤ value e q +ℤ x) (mul_p_is p q)
      ∙ sym (*ℤ_distr (c *ℤ mono e m) (value e p) (value e q))

  neg_p_is : (p : Poly) → value e (neg_p p) ≡ neg_ℤ (value e p)
  neg_p_is nil = refl
  neg_p_is (term c m p) = ap (λ x. x +ℤ value e (neg_p p)) (negℤ_*ℤ c (mono e m)) ∙ ap (λ x. neg_ℤ (c *ℤ mono e m) +ℤ x) (neg_p_is p) ∙ sym (neg_ℤ-+ℤ (c *ℤ mono e m) (value e p))

  pub norm_is : (a : Expr) → value e (norm a) ≡ eval e a
  norm_is (con k) = put_is k [] nil ∙ +ℤ_idr (k *ℤ pos 1) ∙ *ℤ_idr k
  norm_is (var i) = +ℤ_idr (pos 1 *ℤ at e i) ∙ *ℤ_idl (at e i)
  norm_is (add a b) = add_p_is (norm a) (norm b) ∙ ap (λ x. x +ℤ value e (norm b)) (norm_is a) ∙ ap (λ x. eval e a +ℤ x) (norm_is b)
  norm_is (mul a b) = mul_p_is (norm a) (norm b) ∙ ap (λ x. x *ℤ value e (norm b)) (norm_is a) ∙ ap (λ x. eval e a *ℤ x) (norm_is b)
  norm_is (neg a) = neg_p_is (norm a) ∙ ap neg_ℤ (norm_is a)

  pub solve : (a b : Expr) → norm a ≡ norm b → eval e a ≡ eval e b
  solve a b h = sym (norm_is a) ∙ ap (value e) h ∙ norm_is b
