-- The six equations of a piece, their weights over whole numbers, and their determinant.
use Rattle.std.specs.Prelude.{ℕ, zero, suc, List, [], ◌∷◌, ◌++◌, map, ◌≡◌, ℤ, pos, neg_ℤ, ◌+ℤ◌, ◌-ℤ◌, ◌*ℤ◌, ◌<ℤ◌}
use Rattle.meaning.specs.Pieces.{Event, Piece}

abbrev pub one : Event → ℤ
one e = pos 1

abbrev pub x_of : Event → ℤ
x_of e = e.place.x

abbrev pub y_of : Event → ℤ
y_of e = e.place.y

abbrev pub z_of : Event → ℤ
z_of e = e.place.z

abbrev pub time_of : Event → ℤ
time_of e = e.time

-- the weighted sum of f over the points, the weight of the i-th being w i
unfoldable pub total {ℓ} : {A : Type ℓ} → (A → ℤ) → (ℕ → ℤ) → List A → ℤ
total f w [] = pos 0
total f w (e ∷ es) = w zero *ℤ f e +ℤ total f (λ i. w (suc i)) es

-- the weights u of one list and v of another balance: the same sum, and equal weighted x, y, z and time
pub record Balanced (a b : List Event) (u v : ℕ → ℤ) : Type 0 where
  pub sums : total one u a ≡ total one v b
  pub xs : total x_of u a ≡ total x_of v b
  pub ys : total y_of u a ≡ total y_of v b
  pub zs : total z_of u a ≡ total z_of v b
  pub times : total time_of u a ≡ total time_of v b

-- whole weights: none negative, the same sum W > 0, the weighted sums of x, y, z and time equal
pub record Touch (a b : List Event) : Type 0 where
  pub u : ℕ → ℕ
  pub v : ℕ → ℕ
  pub balanced : Balanced a b (λ i. pos (u i)) (λ i. pos (v i))
  pub some : pos 0 <ℤ total one (λ i. pos (u i)) a

-- a column of the six equations: the unknown weight of a point of the first or of the second simplex
pub data Unknown : Type 0 where
  of_first : Event → Unknown
  of_second : Event → Unknown

-- the six rows: the weights of each simplex sum to 1; the weighted x, y, z and time agree
unfoldable pub in_first : Unknown → ℤ
in_first (of_first e) = pos 1
in_first (of_second e) = pos 0

unfoldable pub in_second : Unknown → ℤ
in_second (of_first e) = pos 0
in_second (of_second e) = pos 1

unfoldable pub agrees : (Event → ℤ) → Unknown → ℤ
agrees f (of_first e) = f e
agrees f (of_second e) = neg_ℤ (f e)

abbrev pub equations : List (Unknown → ℤ)
equations = in_first ∷ in_second ∷ agrees x_of ∷ agrees y_of ∷ agrees z_of ∷ agrees time_of ∷ []

-- the determinant by cofactors along the first row: each column's entry times the minor without that column, the signs in turn
-- `minor` is the determinant of the rows below, `passed` the columns before this one
unfoldable pub expand {ℓ} : {A : Type ℓ} → (A → ℤ) → (List A → ℤ) → List A → List A → ℤ
expand row minor passed [] = pos 0
expand row minor passed (c ∷ cs) = row c *ℤ minor (passed ++ cs) -ℤ expand row minor (passed ++ (c ∷ [])) cs

unfoldable pub determinant {ℓ} : {A : Type ℓ} → List (A → ℤ) → List A → ℤ
determinant [] columns = pos 1
determinant (row ∷ rows) columns = expand row (determinant rows) [] columns

-- the determinant of the six equations of a piece
unfoldable pub determinant_of : Piece → ℤ
determinant_of p = determinant equations (map of_first p.first ++ map of_second p.second)

abbrev pub Touches : Piece → Type 0
Touches p = Touch p.first p.second
