-- A text of a series means one thing: it begins with the line of one record at most, since six numbers and three never stand in the same place.
use Rattle.std.specs.Prelude.{true, ◌&&◌, ◌≡◌, refl, ℕ, ◌≤◌, length}
use Rattle.std.proofs.Common.{true≢false, sym, ap, ◌∙◌, arith}
use mathlib.Core.List.{List, [], ◌∷◌, ◌++◌, append_assoc, head-eq_of_cons-eq, tail-eq_of_cons-eq}
use Rattle.whole.specs.Vector.{Vector}
use Rattle.text_fields.specs.Tabbed.{tab_parts, line_ends}
use Rattle.text_fields.specs.Rows.{row_of, row_cancel}
use Rattle.meaning.specs.Text.{Entry, vertex, edge, triangle, seam, letter_of, line_of, line_feed}
use Rattle.text_laws.specs.Unique.{Readable}
use Rattle.text_line.specs.Rendered.{coordinate_form, line_is, line_cancel}
use Rattle.meaning.specs.SeriesText.{Item, of, ends, next, three_of, item_line, SoFar, six_numbers, ItemFormed, series_lines}

-- the line of an end: the letter, the row of its three numbers, LF
pub ends_line_is : (p : Vector) (x : List ℕ) → item_line (ends p) ++ x ≡ 118 ∷ (row_of coordinate_form (three_of p) ++ (line_feed ∷ x))
unfolding item_line
ends_line_is p x = append_assoc (118 ∷ row_of coordinate_form (three_of p)) (line_feed ∷ []) x

three_cancel : (p q : Vector) (x y : List ℕ) → item_line (ends p) ++ x ≡ item_line (ends q) ++ y → (p ≡ q) × (x ≡ y)
three_cancel p q x y e =
    let (same, rest) =
    row_cancel coordinate_form tab_parts (three_of p) (three_of q) (line_feed ∷ x) (line_feed ∷ y) refl (line_ends x) (line_ends y)
    (tail-eq_of_cons-eq (sym (ends_line_is p x) ∙ e ∙ ends_line_is q y)) in
    let a : p.x ≡ q.x = cc in
    let b : p.y ≡ q.y = cc in
    let c : p.z ≡ q.z = cc in
    (λ i. record { x = a i; y = b i; z = c i }, tail-eq_of_cons-eq rest)

-- a record whose letter is a vertex's is one
pub letter_of_six : (r : Entry) → letter_of r ≡ 118 → six_numbers r ≡ true
unfolding letter_of six_numbers
letter_of_six (vertex p q) e = refl
letter_of_six (edge a b) e = absurd (omega arith)
letter_of_six (triangle a b c) e = absurd (omega arith)
letter_of_six (seam i j) e = absurd (omega arith)

pub letter_not_next : (r : Entry) → letter_of r ≡ 110 → ⊥
unfolding letter_of
letter_not_next (vertex p q) e = omega arith
letter_not_next (edge a b) e = omega arith
letter_not_next (triangle a b c) e = omega arith
letter_not_next (seam i j) e = omega arith

-- a record of six numbers does not stand in a block
pub six_not_here : (x : SoFar) (r : Entry) → x.begun ≡ true → six_numbers r ≡ true → ItemFormed x (of r) → ⊥
unfolding ItemFormed
six_not_here x r begun six f =
    let both : x.begun && six_numbers r ≡ true = rw (begun, six) in
    true≢false (sym both ∙ f.0)

cancel : (s : SoFar) (r q : Item) (x y : List ℕ) → ItemFormed s r → ItemFormed s q → item_line r ++ x ≡ item_line q ++ y → (r ≡ q) × (x ≡ y)
unfolding item_line ItemFormed
cancel s (of a) (of b) x y f g e = let (same, rest) = line_cancel a b x y e in (ap of same, rest)
cancel s (of a) (ends q) x y f g e =
    absurd (six_not_here s a g.0 (letter_of_six a (head-eq_of_cons-eq (sym (line_is a x) ∙ e ∙ ends_line_is q y))) f)
cancel s (of a) next x y f g e = absurd (letter_not_next a (head-eq_of_cons-eq (sym (line_is a x) ∙ e)))
cancel s (ends p) (of b) x y f g e =
    absurd (six_not_here s b f.0 (letter_of_six b (head-eq_of_cons-eq (sym (line_is b y) ∙ sym e ∙ ends_line_is p x))) g)
cancel s (ends p) (ends q) x y f g e = let (same, rest) = three_cancel p q x y e in (ap ends same, rest)
cancel s (ends p) next x y f g e = absurd (omega (arith, head-eq_of_cons-eq (sym (ends_line_is p x) ∙ e)))
cancel s next (of b) x y f g e = absurd (letter_not_next b (head-eq_of_cons-eq (sym (line_is b y) ∙ sym e)))
cancel s next (ends q) x y f g e = absurd (omega (arith, head-eq_of_cons-eq (sym (ends_line_is q y) ∙ sym e)))
cancel s next next x y f g e = (refl, tail-eq_of_cons-eq (tail-eq_of_cons-eq e))

some_bytes : (r : Item) → 1 ≤ length (item_line r)
unfolding item_line line_of
some_bytes (of a) = omega arith
some_bytes (ends p) = omega arith
some_bytes next = omega arith

pub series_readable : Readable series_lines
series_readable = record { cancel = λ {s} r q x y f g e. cancel s r q x y f g e; some = λ r. some_bytes r }
