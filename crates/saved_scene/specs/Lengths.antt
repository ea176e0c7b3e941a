-- How long the text of a scene is: its fields, each with its tab, and a letter and an LF for each record.
use Rattle.std.specs.Prelude.{ℕ, ◌+◌, ◌-◌, ◌*◌, ◌≤◌, ◌<◌, List, [], ◌∷◌, ◌++◌, map, ◌≡◌, refl, ℤ, pos, length, get_or, drop}
use Rattle.std.proofs.Common.{ap, ◌∙◌, arith, length-append, drop_of_length-le}
use Rattle.sequences.specs.Parts.{drop_next}
use Rattle.sequences.specs.Flat.{flat_nil, flat_cons}
use Rattle.meaning.specs.Text.{Entry, vertex, tab, line_feed, numeral, further, letter_of, numbers_of, line_of}
use Rattle.meaning.specs.Saved.{vertices_in}
use Rattle.saved_scene.specs.Rows.{field, three_fields, six_line, vertex_lines, two_line, three_line, pair_lines, triple_lines}

-- the lengths of the fields of a list
unfoldable pub fields_long : List ℤ → ℕ
fields_long [] = 0
fields_long (z ∷ l) = length (field z) + fields_long l

-- the same of a list of vertex numbers
unfoldable pub numbers_long : List ℕ → ℕ
numbers_long [] = 0
numbers_long (n ∷ l) = length (field (pos n)) + numbers_long l

pub fields_next : (l : List ℤ) (i : ℕ) → i < length l → fields_long (drop i l) ≡ length (field (get_or l i (pos 0))) + fields_long (drop (i + 1) l)
unfolding fields_long
fields_next l i h = ap fields_long (drop_next l i (pos 0) h)

pub numbers_next : (l : List ℕ) (i : ℕ) → i < length l → numbers_long (drop i l) ≡ length (field (pos (get_or l i 0))) + numbers_long (drop (i + 1) l)
unfolding numbers_long
numbers_next l i h = ap numbers_long (drop_next l i 0 h)

pub fields_none : (l : List ℤ) (i : ℕ) → length l ≤ i → fields_long (drop i l) ≡ 0
unfolding fields_long
fields_none l i h = ap fields_long (drop_of_length-le l {i = i} h)

pub numbers_none : (l : List ℕ) (i : ℕ) → length l ≤ i → numbers_long (drop i l) ≡ 0
unfolding numbers_long
numbers_none l i h = ap numbers_long (drop_of_length-le l {i = i} h)

further_long : (l : List ℤ) → length (further tab (map numeral l)) ≡ fields_long l
unfolding further fields_long
further_long [] = refl
further_long (z ∷ l) = length-append (field z) (further tab (map numeral l)) ∙ ap (λ (n : ℕ). length (field z) + n) (further_long l)

line_long : (r : Entry) → length (line_of r) ≡ fields_long (numbers_of r) + 2
unfolding line_of
line_long r =
    omega (arith, length-append (letter_of r ∷ further tab (map numeral (numbers_of r))) (line_feed ∷ []), further_long (numbers_of r))

-- a list of records' own length, and its records'
pub vertices_long : (l : List ℤ) (n : ℕ) → length l ≡ 6 * n → length (vertex_lines l) ≡ fields_long l + 2 * n
unfolding vertices_in fields_long numbers_of
vertices_long (a ∷ b ∷ c ∷ d ∷ e ∷ f ∷ l) n h =
    let r : Entry = vertex (record { x = a; y = b; z = c }) (record { x = d; y = e; z = f }) in
    let rest : length (vertex_lines l) ≡ fields_long l + 2 * (n - 1) = vertices_long l (n - 1) (omega arith) in
    omega (arith, ap length (flat_cons line_of r (vertices_in l)), length-append (line_of r) (vertex_lines l), line_long r, rest)
vertices_long [] n h = omega (arith, ap length (flat_nil line_of))
vertices_long (a ∷ []) n h = absurd (omega arith)
vertices_long (a ∷ b ∷ []) n h = absurd (omega arith)
vertices_long (a ∷ b ∷ c ∷ []) n h = absurd (omega arith)
vertices_long (a ∷ b ∷ c ∷ d ∷ []) n h = absurd (omega arith)
vertices_long (a ∷ b ∷ c ∷ d ∷ e ∷ []) n h = absurd (omega arith)

pub two_long : (letter a b : ℕ) → length (two_line letter a b) ≡ length (field (pos a)) + (length (field (pos b)) + 2)
two_long letter a b =
    omega (
      arith,
      length-append (((letter ∷ []) ++ field (pos a)) ++ field (pos b)) (line_feed ∷ []),
      length-append ((letter ∷ []) ++ field (pos a)) (field (pos b)),
    )

pub three_long : (a b c : ℕ) → length (three_line a b c) ≡ length (field (pos a)) + (length (field (pos b)) + (length (field (pos c)) + 2))
three_long a b c =
    omega (
      arith,
      length-append ((((116 ∷ []) ++ field (pos a)) ++ field (pos b)) ++ field (pos c)) (line_feed ∷ []),
      length-append (((116 ∷ []) ++ field (pos a)) ++ field (pos b)) (field (pos c)),
      length-append ((116 ∷ []) ++ field (pos a)) (field (pos b)),
    )

pub pairs_long : (letter : ℕ) (l : List ℕ) (n : ℕ) → length l ≡ 2 * n → length (pair_lines letter l) ≡ numbers_long l + 2 * n
unfolding pair_lines numbers_long
pairs_long letter (a ∷ b ∷ l) n h =
    omega (arith, length-append (two_line letter a b) (pair_lines letter l), two_long letter a b, pairs_long letter l (n - 1) (omega arith))
pairs_long letter [] n h = omega arith
pairs_long letter (a ∷ []) n h = absurd (omega arith)

pub triples_long : (l : List ℕ) (n : ℕ) → length l ≡ 3 * n → length (triple_lines l) ≡ numbers_long l + 2 * n
unfolding triple_lines numbers_long
triples_long (a ∷ b ∷ c ∷ l) n h =
    omega (arith, length-append (three_line a b c) (triple_lines l), three_long a b c, triples_long l (n - 1) (omega arith))
triples_long [] n h = omega arith
triples_long (a ∷ []) n h = absurd (omega arith)
triples_long (a ∷ b ∷ []) n h = absurd (omega arith)

pub three_fields_long : (ps : List ℤ) (i : ℕ)
    → length (three_fields ps i) ≡ length (field (get_or ps i (pos 0))) + (length (field (get_or ps (i + 1) (pos 0))) + length (field (get_or ps (i + 2) (pos 0))))
three_fields_long ps i =
    omega (
      arith,
      length-append (field (get_or ps i (pos 0)) ++ field (get_or ps (i + 1) (pos 0))) (field (get_or ps (i + 2) (pos 0))),
      length-append (field (get_or ps i (pos 0))) (field (get_or ps (i + 1) (pos 0))),
    )

pub six_long : (ps : List ℤ) (k : ℕ) → length (six_line ps k) ≡ length (three_fields ps (6 * k)) + (length (three_fields ps (6 * k + 3)) + 2)
six_long ps k =
    omega (
      arith,
      length-append (((118 ∷ []) ++ three_fields ps (6 * k)) ++ three_fields ps (6 * k + 3)) (line_feed ∷ []),
      length-append ((118 ∷ []) ++ three_fields ps (6 * k)) (three_fields ps (6 * k + 3)),
    )
