-- A point as a column of five numbers, the determinant of five of them, and both with letters for the numbers, so that an identity is settled by
-- computing.
use Rattle.std.specs.Prelude.{ℕ, ◌+◌, List, [], ◌∷◌, ◌++◌, map, ◌≡◌, refl, ℤ, pos, ◌-ℤ◌}
use Rattle.std.proofs.Common.{◌∙◌}
use Rattle.whole.specs.Vector.{Vector}
use Rattle.whole.specs.Ring.{Expr, con, var, add, mul, neg, eval, norm}
use Rattle.whole.specs.Operations.{exprs, determinant_in, Alike, none, more, det_solve}
use Rattle.whole.specs.Cramer.{Four}
use Rattle.meaning.specs.Pieces.{Event}
use Rattle.meaning.specs.Equations.{determinant}
use Rattle.theory.specs.Symbols.{determinant_same}

-- a point as a column of five numbers. At-start is 1 for a point at the start and 0 for one at the end, at-end the other way round
pub record Column (N : Type 0) : Type 0 where
  pub x : N
  pub y : N
  pub z : N
  pub start : N
  pub end : N

abbrev pub column_of : Event → Column ℤ
column_of e = record { x = e.place.x; y = e.place.y; z = e.place.z; start = pos 1 -ℤ e.time; end = e.time }

abbrev pub five_rows : (N : Type 0) → List (Column N → N)
five_rows N = (λ c. c.x) ∷ (λ c. c.y) ∷ (λ c. c.z) ∷ (λ c. c.start) ∷ (λ c. c.end) ∷ []

abbrev pub five : List (Column ℤ) → ℤ
five columns = determinant (five_rows ℤ) columns

-- ---- with letters for the numbers

abbrev pub worth_of : List ℤ → Column Expr → Column ℤ
worth_of e c = record { x = eval e c.x; y = eval e c.y; z = eval e c.z; start = eval e c.start; end = eval e c.end }

rows_worth : (e : List ℤ) → Alike e (worth_of e) (five_rows Expr) (five_rows ℤ)
rows_worth e = more (λ c. refl) (more (λ c. refl) (more (λ c. refl) (more (λ c. refl) (more (λ c. refl) none))))

pub five_worth : (e : List ℤ) (columns : List (Column Expr)) (b : Expr) → norm (determinant_in exprs (five_rows Expr) columns) ≡ norm b
    → five (map (worth_of e) columns) ≡ eval e b
five_worth e columns b h =
    determinant_same (five_rows ℤ) (map (worth_of e) columns) ∙ det_solve e (worth_of e) (five_rows Expr) (five_rows ℤ) (rows_worth e) columns b h

-- p at the start, q at the end, and four others, of which at-start and at-end are letters too
abbrev pub startˣ : Column Expr
startˣ = record { x = var 0; y = var 1; z = var 2; start = con (pos 1); end = con (pos 0) }

abbrev pub endˣ : Column Expr
endˣ = record { x = var 3; y = var 4; z = var 5; start = con (pos 0); end = con (pos 1) }

abbrev pub otherˣ : ℕ → Column Expr
otherˣ i = record { x = var i; y = var (i + 1); z = var (i + 2); start = var (i + 3); end = var (i + 4) }

abbrev pub o0 : Column Expr
o0 = otherˣ 6

abbrev pub o1 : Column Expr
o1 = otherˣ 11

abbrev pub o2 : Column Expr
o2 = otherˣ 16

abbrev pub o3 : Column Expr
o3 = otherˣ 21

abbrev pub numbers : Event → List ℤ
numbers e = e.place.x ∷ e.place.y ∷ e.place.z ∷ (pos 1 -ℤ e.time) ∷ e.time ∷ []

abbrev pub letters : Vector → Vector → Four Event → List ℤ
letters p q o =
    p.x ∷ p.y ∷ p.z ∷ q.x ∷ q.y ∷ q.z ∷ numbers o.v0 ++ numbers o.v1 ++ numbers o.v2 ++ numbers o.v3

-- the volume of three differences from the base
abbrev pub subˣ : Expr → Expr → Expr
subˣ a b = add a (neg b)

abbrev pub awayˣ : Column Expr → Expr → Expr → Expr → Expr
awayˣ c a p q = subˣ a (add (mul c.start p) (mul c.end q))

abbrev pub crossˣ : Expr → Expr → Expr → Expr → Expr
crossˣ a b c d = subˣ (mul a b) (mul c d)

abbrev pub volumeˣ : Column Expr → Column Expr → Column Expr → Expr
volumeˣ a b c =
    add (subˣ (mul (x_away a) (crossˣ (y_away b) (z_away c) (z_away b) (y_away c))) (mul (y_away a) (crossˣ (x_away b) (z_away c) (z_away b) (x_away c))))
    (mul (z_away a) (crossˣ (x_away b) (y_away c) (y_away b) (x_away c)))
  where
    x_away : Column Expr → Expr
    x_away c = awayˣ c c.x (var 0) (var 3)

    y_away : Column Expr → Expr
    y_away c = awayˣ c c.y (var 1) (var 4)

    z_away : Column Expr → Expr
    z_away c = awayˣ c c.z (var 2) (var 5)

abbrev pub E0 : Expr
E0 = volumeˣ o1 o2 o3

abbrev pub E1 : Expr
E1 = neg (volumeˣ o0 o2 o3)

abbrev pub E2 : Expr
E2 = volumeˣ o0 o1 o3

abbrev pub E3 : Expr
E3 = neg (volumeˣ o0 o1 o2)

-- what falls to the base: the four volumes, each times a number of its event
abbrev pub shareˣ : (Column Expr → Expr) → Expr
shareˣ f = add (add (add (mul E0 (f o0)) (mul E1 (f o1))) (mul E2 (f o2))) (mul E3 (f o3))
