-- A line of a Wavefront OBJ file (document 02, §3): what its bytes say, without the LF that ends it.
use Rattle.std.specs.Prelude.{Bool, true, false, ◌&&◌, ◌||◌, List, [], ◌∷◌, ℕ, suc, ◌+◌, ◌*◌, leb, ltb, eqb, length, take, drop, None, Option, Some}
use Rattle.sequences.specs.Pick.{pick}
use Rattle.decimals.specs.Byte.{byte_at, digit_test}
use Rattle.decimals.specs.Value.{value}
use Rattle.meaning.specs.Limits.{digit_limit}
use Rattle.meaning.specs.Text.{minus_sign}
use Rattle.meaning.specs.declared.ObjLine.{ObjLine}
use Rattle.meaning.specs.declared.ObjLine.TheVariants.{Skipped, Vertex, Face, Bad}
use Rattle.meaning.specs.declared.Hundredths.{Hundredths}

abbrev pub space : ℕ
space = 32

abbrev pub point : ℕ
point = 46

abbrev pub zero_digit : ℕ
zero_digit = 48

-- ---- parts of a line

-- the place of the first such byte, or the length where there is none
unfoldable pub place_of : ℕ → List ℕ → ℕ
place_of c [] = 0
place_of c (b ∷ l) = pick (eqb b c) 0 (suc (place_of c l))

abbrev pub has : ℕ → List ℕ → Bool
has c l = ltb (place_of c l) (length l)

-- what stands before_first the first such byte, and what stands behind it: all and nothing, where there is none
abbrev pub before_first : ℕ → List ℕ → List ℕ
before_first c l = take (place_of c l) l

abbrev pub behind : ℕ → List ℕ → List ℕ
behind c l = drop (place_of c l + 1) l

-- three fields, parted by one space; a space too many stands in the third, and one too few leaves it empty
abbrev pub first_field : List ℕ → List ℕ
first_field l = before_first space l

abbrev pub second_field : List ℕ → List ℕ
second_field l = before_first space (behind space l)

abbrev pub third_field : List ℕ → List ℕ
third_field l = behind space (behind space l)

-- ---- numbers

unfoldable pub digits_alone : List ℕ → Bool
digits_alone [] = true
digits_alone (b ∷ l) = digit_test b && digits_alone l

-- one digit or more and at most so many; zeros in front are digits too
abbrev pub whole_of : ℕ → List ℕ → Option ℕ
whole_of most l = pick (ltb 0 (length l) && leb (length l) most && digits_alone l) (Some (value l)) None

-- one digit behind the point is tenths, two are hundredths
unfoldable pub with_part : ℕ → ℕ → Option ℕ → Option ℕ
with_part n count (Some m) = Some (n * 100 + pick (eqb count 1) (m * 10) m)
with_part n count None = None

unfoldable pub on_whole : Option ℕ → (ℕ → Option ℕ) → Option ℕ
on_whole (Some n) f = f n
on_whole None f = None

-- one to nine digits, then nothing, or a point and one or two digits: in hundredths
abbrev pub size_of : List ℕ → Option ℕ
size_of l =
    pick (has point l)
    (on_whole (whole_of digit_limit (before_first point l)) (λ n. with_part n (length (behind point l)) (whole_of 2 (behind point l))))
    (on_whole (whole_of digit_limit l) (λ n. Some (n * 100)))

unfoldable pub signed_as : Bool → Option ℕ → Option Hundredths
signed_as minus (Some n) = Some (record { minus = minus; size = n })
signed_as minus None = None

-- a minus or none
abbrev pub decimal_of : List ℕ → Option Hundredths
decimal_of l = pick (eqb (byte_at l 0) minus_sign) (signed_as true (size_of (drop 1 l))) (signed_as false (size_of l))

-- a plain positive number: no zero in front
abbrev pub vertex_number_of : List ℕ → Option ℕ
vertex_number_of l = pick (eqb (byte_at l 0) zero_digit) None (whole_of digit_limit l)

-- ---- lines

unfoldable pub vertex_with : Option Hundredths → Option Hundredths → Option Hundredths → ObjLine
vertex_with (Some x) (Some y) (Some z) = Vertex x y z
vertex_with (Some x) (Some y) None = Bad
vertex_with (Some x) None z = Bad
vertex_with None y z = Bad

unfoldable pub face_with : Option ℕ → Option ℕ → Option ℕ → ObjLine
face_with (Some a) (Some b) (Some c) = Face a b c
face_with (Some a) (Some b) None = Bad
face_with (Some a) None c = Bad
face_with None b c = Bad

abbrev pub vertex_of : List ℕ → ObjLine
vertex_of l = vertex_with (decimal_of (first_field l)) (decimal_of (second_field l)) (decimal_of (third_field l))

abbrev pub face_of : List ℕ → ObjLine
face_of l = face_with (vertex_number_of (first_field l)) (vertex_number_of (second_field l)) (vertex_number_of (third_field l))

-- the line begins with these two bytes, or with these three; past its end a byte is 0
abbrev pub begins_with : ℕ → ℕ → List ℕ → Bool
begins_with a b l = eqb (byte_at l 0) a && eqb (byte_at l 1) b

abbrev pub begins_with_three : ℕ → ℕ → ℕ → List ℕ → Bool
begins_with_three a b c l = eqb (byte_at l 0) a && eqb (byte_at l 1) b && eqb (byte_at l 2) c

-- an empty line, and one that begins with `#`, `vt ` or `vn `
abbrev pub is_skipped : List ℕ → Bool
is_skipped l = eqb (length l) 0 || eqb (byte_at l 0) 35 || begins_with_three 118 116 space l || begins_with_three 118 110 space l

-- `v` and three decimals, `f` and three numbers; any other line is bad
abbrev pub says : List ℕ → ObjLine
says l =
    pick (is_skipped l) Skipped
    (pick (begins_with 118 space l) (vertex_of (drop 2 l))
    (pick (begins_with 102 space l) (face_of (drop 2 l)) Bad))
