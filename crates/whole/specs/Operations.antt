-- A big polynomial is written once, over a record of operations, and used at ℤ and at the expressions of the normaliser.
-- The determinant is written so: `determinant` is the one at ℤ, and `det_hom` says that the expression is worth it.
use Rattle.std.specs.Prelude.{◌≡◌, ℕ, zero, suc, get_or, ℤ, pos, neg_ℤ, ◌+ℤ◌, ◌-ℤ◌, ◌*ℤ◌}
use Rattle.std.proofs.Math.Path.{refl, sym}
use Rattle.std.proofs.Common.{◌∙◌, ap}
use mathlib.Core.List.{List, [], ◌∷◌, ◌++◌, map}
use Rattle.whole.specs.Ring.{Expr, con, var, add, mul, neg, eval, norm, solve}

pub record Ops : Type 1 where
  pub R : Type 0
  pub plus : R → R → R
  pub minus : R → R → R
  pub negate : R → R
  pub times : R → R → R
  pub lit : ℤ → R

abbrev pub wholes : Ops
wholes = record { R = ℤ; plus = ◌+ℤ◌; minus = ◌-ℤ◌; negate = neg_ℤ; times = ◌*ℤ◌; lit = λ k. k }

abbrev pub exprs : Ops
exprs = record { R = Expr; plus = add; minus = λ a b. add a (neg b); negate = neg; times = mul; lit = con }

-- ---- the determinant

-- by cofactors along the first row: each column's entry times the minor without that column, the signs in turn.
-- A row gives an entry for each column; `minor` is the determinant of the rows below, `passed` the columns before this one
module _ (o : Ops) {C : Type 0} where
  unfoldable pub expand_in : (C → o.R) → (List C → o.R) → List C → List C → o.R
  expand_in row minor passed [] = o.lit (pos 0)
  expand_in row minor passed (c ∷ cs) =
      o.minus (o.times (row c) (minor (passed ++ cs))) (expand_in row minor (passed ++ (c ∷ [])) cs)

  unfoldable pub determinant_in : List (C → o.R) → List C → o.R
  determinant_in [] columns = o.lit (pos 1)
  determinant_in (row ∷ rows) columns = expand_in row (determinant_in rows) [] columns

abbrev pub determinant : {C : Type 0} → List (C → ℤ) → List C → ℤ
determinant = determinant_in wholes

-- rows of expressions over columns of one kind, worth rows of numbers over columns of another
pub data Alike (e : List ℤ) {C D : Type 0} (g : C → D) : List (C → Expr) → List (D → ℤ) → Type 0 where
  none : Alike e g [] []
  more : {r : C → Expr} {r' : D → ℤ} {rs : List (C → Expr)} {rs' : List (D → ℤ)} → ((c : C) → eval e (r c) ≡ r' (g c)) → Alike e g rs rs' → Alike e g (r ∷ rs) (r' ∷ rs')

module _ (e : List ℤ) {C D : Type 0} (g : C → D) where
  map_append : (l m : List C) → map g (l ++ m) ≡ map g l ++ map g m
  map_append [] m = refl
  map_append (c ∷ l) m = ap (λ (k : List D). g c ∷ k) (map_append l m)

  expand_hom : (r : C → Expr) (r' : D → ℤ) (m : List C → Expr) (m' : List D → ℤ) → ((c : C) → eval e (r c) ≡ r' (g c)) → ((l : List C) → eval e (m l) ≡ m' (map g l)) → (p l : List C) → eval e (expand_in exprs r m p l) ≡ expand_in wholes r' m' (map g p) (map g l)
  unfolding expand_in
  expand_hom r r' m m' h k p [] = refl
  expand_hom r r' m m' h k p (c ∷ l) = simp (h, k, map_append, expand_hom r r' m m' h k (p ++ (c ∷ [])) l)

  pub det_hom : (rows : List (C → Expr)) (rows' : List (D → ℤ)) → Alike e g rows rows' → (columns : List C) → eval e (determinant_in exprs rows columns) ≡ determinant rows' (map g columns)
  unfolding determinant_in
  det_hom rows rows' none columns = refl
  det_hom rows rows' (more {r = r} {r' = r'} {rs = rs} {rs' = rs'} h hs) columns =
      expand_hom r r' (determinant_in exprs rs) (determinant_in wholes rs') h (det_hom rs rs' hs) [] columns

  -- a determinant is worth an expression with its normal form; used with `refl` and `unfolding determinant_in expand_in`
  pub det_solve : (rows : List (C → Expr)) (rows' : List (D → ℤ)) → Alike e g rows rows' → (columns : List C) (b : Expr) → norm (determinant_in exprs rows columns) ≡ norm b → determinant rows' (map g columns) ≡ eval e b
  det_solve rows rows' h columns b k = sym (det_hom rows rows' h columns) ∙ solve e (determinant_in exprs rows columns) b k

-- ---- rows given as lists, the i-th column's entry being the i-th of the row

abbrev pub entry : List ℤ → ℕ → ℤ
entry row i = get_or row i (pos 0)

abbrev pub entry_expr : List Expr → ℕ → Expr
entry_expr row i = get_or row i (con (pos 0))

pub entry_hom : (e : List ℤ) (row : List Expr) (i : ℕ) → eval e (entry_expr row i) ≡ entry (map (eval e) row) i
entry_hom e [] i = refl
entry_hom e (a ∷ row) zero = refl
entry_hom e (a ∷ row) (suc i) = entry_hom e row i

-- shown at work
two_by_two : determinant (entry (pos 3 ∷ pos 5 ∷ []) ∷ entry (pos 2 ∷ pos 4 ∷ []) ∷ []) (0 ∷ 1 ∷ []) ≡ pos 2
unfolding determinant_in expand_in
two_by_two = refl

by_det_solve : (a b c d : ℤ) → determinant (entry (a ∷ b ∷ []) ∷ entry (c ∷ d ∷ []) ∷ []) (0 ∷ 1 ∷ []) ≡ a *ℤ d -ℤ b *ℤ c
unfolding determinant_in expand_in
by_det_solve a b c d =
    let e : List ℤ = a ∷ b ∷ c ∷ d ∷ [] in
    let r : List Expr = var 0 ∷ var 1 ∷ [] in
    let s : List Expr = var 2 ∷ var 3 ∷ [] in
    det_solve e (λ i. i) (entry_expr r ∷ entry_expr s ∷ []) (entry (a ∷ b ∷ []) ∷ entry (c ∷ d ∷ []) ∷ [])
    (more (entry_hom e r) (more (entry_hom e s) none)) (0 ∷ 1 ∷ []) (add (mul (var 0) (var 3)) (neg (mul (var 1) (var 2)))) refl
