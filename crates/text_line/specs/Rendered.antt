-- Rendering is one-to-one: a text begins with the line of one record at most.
use Rattle.std.specs.Prelude.{true, false, ◌≡◌, refl, ℕ, suc, ℤ, pos, negsuc, nat_abs, length}
use mathlib.Core.List.{List, [], ◌∷◌, ◌++◌, append_assoc, head-eq_of_cons-eq, tail-eq_of_cons-eq, Memᴰ}
use Rattle.std.proofs.Common.{sym, ap, ◌∙◌, arith}
use Rattle.whole.specs.Vector.{Vector}
use Rattle.decimals.specs.Byte.{IsDigit}
use Rattle.decimals.specs.Digits.{digits}
use Rattle.decimals.specs.Value.{digits_canonical}
use Rattle.text_fields.specs.Tabbed.{tab_parts, line_ends}
use Rattle.text_fields.specs.Rows.{row_of, row_cancel}
use Rattle.text_fields.specs.declared.Form.{Form}
use Rattle.meaning.specs.Limits.{digit_limit}
use Rattle.meaning.specs.Text.{Entry, vertex, edge, triangle, seam, coordinates, letter_of, numbers_of, numeral, further, rendered, line_of, tab, line_feed, scene_lines}
use Rattle.text_laws.specs.Unique.{Readable}
use Rattle.text_laws.specs.Feed.{NoFeed, feed_append, Bodies}

-- coordinates may have a minus, vertex numbers not
abbrev pub coordinate_form : Form
coordinate_form = record { separator = tab; signed = true; most = digit_limit }

abbrev pub number_form : Form
number_form = record { separator = tab; signed = false; most = digit_limit }

-- a line: the letter, the row of the numbers, LF
pub line_is : (r : Entry) (x : List ℕ) → line_of r ++ x ≡ letter_of r ∷ (row_of number_form (numbers_of r) ++ (line_feed ∷ x))
unfolding line_of
line_is r x = append_assoc (letter_of r ∷ row_of number_form (numbers_of r)) (line_feed ∷ []) x

-- lines with the same letter and as many numbers
numbers_cancel : (r q : Entry) (x y : List ℕ) → length (numbers_of r) ≡ length (numbers_of q) → line_of r ++ x ≡ line_of q ++ y
    → (numbers_of r ≡ numbers_of q) × (x ≡ y)
numbers_cancel r q x y n e =
    let (same, rest) =
    row_cancel number_form tab_parts (numbers_of r) (numbers_of q) (line_feed ∷ x) (line_feed ∷ y) n (line_ends x) (line_ends y)
    (tail-eq_of_cons-eq (sym (line_is r x) ∙ e ∙ line_is q y)) in
    (same, tail-eq_of_cons-eq rest)

letter_cancel : (r q : Entry) (x y : List ℕ) → line_of r ++ x ≡ line_of q ++ y → letter_of r ≡ letter_of q
letter_cancel r q x y e = head-eq_of_cons-eq (sym (line_is r x) ∙ e ∙ line_is q y)

six : (p q p' q' : Vector) → coordinates p q ≡ coordinates p' q' → vertex p q ≡ vertex p' q'
six p q p' q' e =
    let a : p.x ≡ p'.x = cc in
    let b : p.y ≡ p'.y = cc in
    let c : p.z ≡ p'.z = cc in
    let d : q.x ≡ q'.x = cc in
    let f : q.y ≡ q'.y = cc in
    let g : q.z ≡ q'.z = cc in
    λ i. vertex (record { x = a i; y = b i; z = c i }) (record { x = d i; y = f i; z = g i })

two : (a b c d : ℕ) → ◌≡◌ {A = List ℤ} (pos a ∷ pos b ∷ []) (pos c ∷ pos d ∷ []) → edge a b ≡ edge c d
two a b c d e =
    let p : a ≡ c = ap nat_abs (head-eq_of_cons-eq e) in
    let q : b ≡ d = ap nat_abs (head-eq_of_cons-eq (tail-eq_of_cons-eq e)) in
    cc

sewn : (a b c d : ℕ) → ◌≡◌ {A = List ℤ} (pos a ∷ pos b ∷ []) (pos c ∷ pos d ∷ []) → seam a b ≡ seam c d
sewn a b c d e =
    let p : a ≡ c = ap nat_abs (head-eq_of_cons-eq e) in
    let q : b ≡ d = ap nat_abs (head-eq_of_cons-eq (tail-eq_of_cons-eq e)) in
    cc

three : (a b c d f g : ℕ) → ◌≡◌ {A = List ℤ} (pos a ∷ pos b ∷ pos c ∷ []) (pos d ∷ pos f ∷ pos g ∷ []) → triangle a b c ≡ triangle d f g
three a b c d f g e =
    let p : a ≡ d = ap nat_abs (head-eq_of_cons-eq e) in
    let q : b ≡ f = ap nat_abs (head-eq_of_cons-eq (tail-eq_of_cons-eq e)) in
    let r : c ≡ g = ap nat_abs (head-eq_of_cons-eq (tail-eq_of_cons-eq (tail-eq_of_cons-eq e))) in
    cc

pub line_cancel : (r q : Entry) (x y : List ℕ) → line_of r ++ x ≡ line_of q ++ y → (r ≡ q) × (x ≡ y)
unfolding letter_of numbers_of
line_cancel (vertex p q) (vertex p' q') x y e =
    let (same, rest) = numbers_cancel (vertex p q) (vertex p' q') x y refl e in
    (six p q p' q' same, rest)
line_cancel (vertex p q) (edge a b) x y e = absurd (omega (arith, letter_cancel (vertex p q) (edge a b) x y e))
line_cancel (vertex p q) (triangle a b c) x y e = absurd (omega (arith, letter_cancel (vertex p q) (triangle a b c) x y e))
line_cancel (vertex p q) (seam a b) x y e = absurd (omega (arith, letter_cancel (vertex p q) (seam a b) x y e))
line_cancel (edge a b) (vertex p q) x y e = absurd (omega (arith, letter_cancel (edge a b) (vertex p q) x y e))
line_cancel (edge a b) (edge c d) x y e =
    let (same, rest) = numbers_cancel (edge a b) (edge c d) x y refl e in
    (two a b c d same, rest)
line_cancel (edge a b) (triangle c d f) x y e = absurd (omega (arith, letter_cancel (edge a b) (triangle c d f) x y e))
line_cancel (edge a b) (seam c d) x y e = absurd (omega (arith, letter_cancel (edge a b) (seam c d) x y e))
line_cancel (triangle a b c) (vertex p q) x y e = absurd (omega (arith, letter_cancel (triangle a b c) (vertex p q) x y e))
line_cancel (triangle a b c) (edge d f) x y e = absurd (omega (arith, letter_cancel (triangle a b c) (edge d f) x y e))
line_cancel (triangle a b c) (triangle d f g) x y e =
    let (same, rest) = numbers_cancel (triangle a b c) (triangle d f g) x y refl e in
    (three a b c d f g same, rest)
line_cancel (triangle a b c) (seam d f) x y e = absurd (omega (arith, letter_cancel (triangle a b c) (seam d f) x y e))
line_cancel (seam a b) (vertex p q) x y e = absurd (omega (arith, letter_cancel (seam a b) (vertex p q) x y e))
line_cancel (seam a b) (edge c d) x y e = absurd (omega (arith, letter_cancel (seam a b) (edge c d) x y e))
line_cancel (seam a b) (triangle c d f) x y e = absurd (omega (arith, letter_cancel (seam a b) (triangle c d f) x y e))
line_cancel (seam a b) (seam c d) x y e =
    let (same, rest) = numbers_cancel (seam a b) (seam c d) x y refl e in
    (sewn a b c d same, rest)

-- a text of such lines means one thing
pub scene_readable : Readable scene_lines
unfolding line_of
scene_readable = record { cancel = λ r q x y short short' e. line_cancel r q x y e; some = λ r. omega arith }

-- ---- a record stands in one line

digits_feed : (l : List ℕ) → ((b : ℕ) → Memᴰ b l → IsDigit b) → NoFeed l
unfolding NoFeed
digits_feed [] each = tt
digits_feed (b ∷ l) each =
    (λ e. omega (arith, (each b (Memᴰ.head refl)).low), digits_feed l (λ c m. each c (Memᴰ.tail m)))

numeral_feed : (z : ℤ) → NoFeed (numeral z)
unfolding numeral NoFeed
numeral_feed (pos n) = digits_feed (digits n) (digits_canonical n).each
numeral_feed (negsuc n) = (λ e. omega (arith, e), digits_feed (digits (suc n)) (digits_canonical (suc n)).each)

row_feed : (zs : List ℤ) → NoFeed (row_of number_form zs)
unfolding further NoFeed
row_feed [] = tt
row_feed (z ∷ zs) = (λ e. omega (arith, e), feed_append (numeral z) (row_of number_form zs) (numeral_feed z) (row_feed zs))

rendered_feed : (r : Entry) → NoFeed (rendered r)
unfolding letter_of NoFeed
rendered_feed (vertex p q) = (λ e. omega (arith, e), row_feed (numbers_of (vertex p q)))
rendered_feed (edge a b) = (λ e. omega (arith, e), row_feed (numbers_of (edge a b)))
rendered_feed (triangle a b c) = (λ e. omega (arith, e), row_feed (numbers_of (triangle a b c)))
rendered_feed (seam a b) = (λ e. omega (arith, e), row_feed (numbers_of (seam a b)))

-- so `text_laws/Feed.first_line` and `no_line` hold of it: its line ends at the first LF, and a text without LF begins with none
pub scene_bodies : Bodies scene_lines
unfolding line_of
scene_bodies = record { body = λ r. rendered r; ended = λ r. refl; unbroken = λ r short. rendered_feed r }
