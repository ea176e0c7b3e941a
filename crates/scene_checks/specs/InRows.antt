-- Triangles in a row: a number that is written twice in a triangle, told number by number.
use Rattle.std.specs.Prelude.{ℕ, zero, suc, ◌+◌, ◌*◌, ◌-◌, ◌%◌, ◌≤◌, Bool, true, false, not, ◌&&◌, ◌||◌, List, ◌≡◌, refl, eqb, length, get_or}
use Rattle.std.proofs.Math.Bool.{or_assoc, or-false, and-true, and-false}
use Rattle.std.proofs.Common.{sym, ◌∙◌, ap, arith}
use Rattle.meaning.specs.Scene.{some_below}
use Rattle.answers.specs.Below.{some_more}
use Rattle.scene_checks.specs.AsWritten.{written_twice_in_triangle}

abbrev pub row_triangles : ℕ
row_triangles = 16

abbrev pub row_numbers : ℕ
row_numbers = 3 * row_triangles

-- number k of the row is the next one, or the one after that, and they are of one triangle
abbrev pub written_again : List ℕ → ℕ → ℕ → Bool
written_again l from k =
    (eqb (get_or l (from + k) 0) (get_or l (from + k + 1) 0) && not (eqb (k % 3) 2))
    || (eqb (get_or l (from + k) 0) (get_or l (from + k + 2) 0) && eqb (k % 3) 0)

-- tests below a sum: those below the first number, and those from it on
pub some_split : (test : ℕ → Bool) (a b : ℕ) → some_below (a + b) test ≡ some_below a test || some_below b (λ i. test (a + i))
unfolding some_below
some_split test a zero = let e : a + zero ≡ a = omega arith in rw e (sym (or-false (some_below a test)))
some_split test a (suc b) =
    let e : a + suc b ≡ a + b + 1 = omega arith in
    rw (e, some_more test (a + b), some_split test a b) (or_assoc (some_below a test) (some_below b (λ i. test (a + i))) (test (a + b)))

gather : (s x y z : Bool) → ((s || (x || y)) || z) || false ≡ s || (x || y || z)
gather true x y z = refl
gather false true y z = refl
gather false false true z = refl
gather false false false true = refl
gather false false false false = refl

module _ (l : List ℕ) (j n : ℕ) where
  abbrev at : ℕ → ℕ
  at k = get_or l (3 * (j + n) + k) 0

  -- the numbers of triangle n of the row, one after the other
  first_corner : written_again l (3 * j) (3 * n) ≡ eqb (at 0) (at 1) || eqb (at 0) (at 2)
  first_corner =
      let e : 3 * n % 3 ≡ 0 = omega arith in
      let one : 3 * j + 3 * n + 1 ≡ 3 * (j + n) + 1 = omega arith in
      let two : 3 * j + 3 * n + 2 ≡ 3 * (j + n) + 2 = omega arith in
      let here : 3 * j + 3 * n ≡ 3 * (j + n) + 0 = omega arith in
      rw (one, two, here, e, and-true, and-true)

  second_corner : written_again l (3 * j) (3 * n + 1) ≡ eqb (at 1) (at 2)
  second_corner =
      let e : (3 * n + 1) % 3 ≡ 1 = omega arith in
      let next : 3 * j + (3 * n + 1) + 1 ≡ 3 * (j + n) + 2 = omega arith in
      let here : 3 * j + (3 * n + 1) ≡ 3 * (j + n) + 1 = omega arith in
      rw (next, here, e, and-true, and-false, or-false)

  third_corner : written_again l (3 * j) (3 * n + 1 + 1) ≡ false
  third_corner = let e : (3 * n + 1 + 1) % 3 ≡ 2 = omega arith in rw (e, and-false, and-false)

-- so a row of numbers tells what its triangles tell
pub in_row : (l : List ℕ) (j n : ℕ) → some_below (3 * n) (written_again l (3 * j)) ≡ some_below n (λ i. written_twice_in_triangle l (j + i))
unfolding some_below
in_row l j zero = refl
in_row l j (suc n) =
    let test = written_again l (3 * j) in
    let e : 3 * suc n ≡ 3 * n + 1 + 1 + 1 = omega arith in
    rw (e, some_more test (3 * n + 1 + 1), some_more test (3 * n + 1), some_more test (3 * n), in_row l j n, first_corner l j n, second_corner l j n, third_corner l j n)
    (gather (some_below n (λ i. written_twice_in_triangle l (j + i))) (eqb (at l j n 0) (at l j n 1)) (eqb (at l j n 0) (at l j n 2)) (eqb (at l j n 1) (at l j n 2)))

-- the triangles below j are tried, and `found` is what was found
pub record RowsDone (l : List ℕ) (found : Bool) (j : ℕ) : Type 0 where
  pub within : 3 * j ≤ length l
  pub finds : found ≡ some_below j (written_twice_in_triangle l)

pub none_done : (l : List ℕ) → RowsDone l false 0
unfolding some_below
none_done l = record { within = omega arith; finds = refl }

pub row_done : {l : List ℕ} {found : Bool} {j : ℕ} → RowsDone l found j → 3 * j + row_numbers ≤ length l
    → (now : Bool) → now ≡ some_below row_numbers (written_again l (3 * j))
    → RowsDone l (found || now) (j + row_triangles)
row_done {l} {found} {j} so room now e =
    record {
      within = omega arith;
      finds = rw (so.finds, e, in_row l j row_triangles) (sym (some_split (written_twice_in_triangle l) j row_triangles));
    }

pub all_done : {l : List ℕ} {found : Bool} {j : ℕ} (n : ℕ) → RowsDone l found j → j ≤ n
    → (rest : Bool) → rest ≡ some_below (n - j) (λ i. written_twice_in_triangle l (j + i))
    → found || rest ≡ some_below n (written_twice_in_triangle l)
all_done {l} {found} {j} n so h rest e =
    let whole : j + (n - j) ≡ n = omega arith in
    rw (so.finds, e) (sym (some_split (written_twice_in_triangle l) j (n - j)) ∙ ap (λ (m : ℕ). some_below m (written_twice_in_triangle l)) whole)
