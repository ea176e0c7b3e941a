-- What the reader of a line promises: the record that stands there, with its numbers in front of two buffers, or that none does.
use Rattle.std.specs.Prelude.{Option, Some, None, Bool, List, [], ◌∷◌, ◌++◌, ◌≡◌, refl, ℕ, ◌+◌, ◌≤◌, ◌<◌, ℤ, pos, negsuc, nat_abs, drop}
use Rattle.std.proofs.Common.{true≢false, sym, ap, ◌∙◌, arith}
use Rattle.std.proofs.Math.ListN.{length}
use Rattle.sequences.specs.Stands.{Stands, stands_one, stands_then, stands_apart}
use Rattle.sequences.specs.Parts.{none_of}
use Rattle.decimals.specs.Byte.{IsDigit, byte_at}
use Rattle.decimals.specs.Digits.{digits}
use Rattle.text_fields.specs.Field.{Allowed, front_byte}
use Rattle.text_fields.specs.Rows.{EachAllowed, row_of}
use Rattle.text_fields.specs.Ended.{RowEnded, LineStands, InFront, row_ended, row_unended}
use Rattle.text_fields.specs.declared.Form.{Form}
use Rattle.meaning.specs.Limits.{digit_limit}
use Rattle.meaning.specs.Text.{Entry, vertex, edge, triangle, seam, coordinates, letter_of, numbers_of, line_of, Short, line_feed}
use Rattle.text_fields.specs.Tabbed.{tab_parts, line_ends, first_of}
use Rattle.text_line.specs.Rendered.{coordinate_form, number_form}
use Rattle.text_line.specs.declared.Sort.{Sort}
use Rattle.text_line.specs.declared.Sort.TheVariants.{Vertex, Edge, Triangle, Seam}
use Rattle.text_line.specs.declared.Line.{Line}

-- ---- the four kinds

unfoldable pub sort_of : Entry → Sort
sort_of (vertex p q) = Vertex
sort_of (edge a b) = Edge
sort_of (triangle a b c) = Triangle
sort_of (seam a b) = Seam

unfoldable pub letter : Sort → ℕ
letter Vertex = 118
letter Edge = 101
letter Triangle = 116
letter Seam = 119

unfoldable pub many : Sort → ℕ
many Vertex = 6
many Edge = 2
many Triangle = 3
many Seam = 2

unfoldable pub form_of : Sort → Form
form_of Vertex = coordinate_form
form_of Edge = number_form
form_of Triangle = number_form
form_of Seam = number_form

unfoldable pub line_ended : Sort → Option ℕ → Option Line
line_ended sort (Some next) = Some (record { sort = sort; next = next })
line_ended sort None = None

-- ---- the promise

pub record LineGot (text : List ℕ) (at : ℕ) (sizes : List ℕ) (minus : List Bool) (sort : Sort) (next : ℕ) : Type 0 where
  pub entry : Entry
  pub sorted : sort_of entry ≡ sort
  pub short : Short digit_limit (numbers_of entry)
  pub stands : Stands text at (line_of entry) next
  pub front : InFront (numbers_of entry) sizes minus

-- no record's line stands here
abbrev pub NoLine : List ℕ → ℕ → Type 0
NoLine text at = (r : Entry) (next : ℕ) → Short digit_limit (numbers_of r) → Stands text at (line_of r) next → ⊥

unfoldable pub LineRead : List ℕ → ℕ → List ℕ → List Bool → Option Line → Type 0
LineRead text at sizes minus (Some line) = LineGot text at sizes minus line.sort line.next
LineRead text at sizes minus None = NoLine text at

-- ---- the numbers of a record, and of its form

tabbed : (sort : Sort) (zs : List ℤ) → row_of (form_of sort) zs ≡ row_of number_form zs
unfolding form_of
tabbed Vertex zs = refl
tabbed Edge zs = refl
tabbed Triangle zs = refl
tabbed Seam zs = refl

parts : (sort : Sort) → ¬ IsDigit (form_of sort).separator
unfolding form_of
parts Vertex = tab_parts
parts Edge = tab_parts
parts Triangle = tab_parts
parts Seam = tab_parts

entry_letter : (r : Entry) → letter_of r ≡ letter (sort_of r)
unfolding letter_of letter sort_of
entry_letter (vertex p q) = refl
entry_letter (edge a b) = refl
entry_letter (triangle a b c) = refl
entry_letter (seam a b) = refl

entry_many : (r : Entry) → length (numbers_of r) ≡ many (sort_of r)
unfolding numbers_of many sort_of
entry_many (vertex p q) = refl
entry_many (edge a b) = refl
entry_many (triangle a b c) = refl
entry_many (seam a b) = refl

pub short_signed : (zs : List ℤ) → Short digit_limit zs → EachAllowed coordinate_form zs
unfolding Short EachAllowed
short_signed [] s = tt
short_signed (z ∷ zs) s = (record { short = s.0; sign = λ e. refl }, short_signed zs s.1)

short_plain : (a : ℕ) (zs : List ℤ) → length (digits a) ≤ digit_limit → EachAllowed number_form zs → EachAllowed number_form (pos a ∷ zs)
unfolding EachAllowed
short_plain a zs s rest = (record { short = s; sign = λ e. absurd (true≢false (sym e)) }, rest)

entry_allowed : (r : Entry) → Short digit_limit (numbers_of r) → EachAllowed (form_of (sort_of r)) (numbers_of r)
unfolding form_of sort_of numbers_of Short EachAllowed
entry_allowed (vertex p q) s = short_signed (coordinates p q) s
entry_allowed (edge a b) s = short_plain a (pos b ∷ []) s.0 (short_plain b [] s.1.0 tt)
entry_allowed (triangle a b c) s =
    short_plain a (pos b ∷ pos c ∷ []) s.0 (short_plain b (pos c ∷ []) s.1.0 (short_plain c [] s.1.1.0 tt))
entry_allowed (seam a b) s = short_plain a (pos b ∷ []) s.0 (short_plain b [] s.1.0 tt)

pub allowed_short : (f : Form) (zs : List ℤ) → EachAllowed f zs → Short f.most zs
unfolding Short EachAllowed
allowed_short f [] a = tt
allowed_short f (z ∷ zs) a = (a.0.short, allowed_short f zs a.1)

nine : (sort : Sort) → (form_of sort).most ≡ digit_limit
unfolding form_of
nine Vertex = refl
nine Edge = refl
nine Triangle = refl
nine Seam = refl

-- ---- numbers of the form make a record

record Made (sort : Sort) (zs : List ℤ) : Type 0 where
  entry : Entry
  sorted : sort_of entry ≡ sort
  numbers : numbers_of entry ≡ zs

unsigned : (z : ℤ) → Allowed number_form z → z ≡ pos (nat_abs z)
unsigned (pos n) a = refl
unsigned (negsuc n) a = absurd (true≢false (sym (a.sign refl)))

made : (sort : Sort) (zs : List ℤ) → length zs ≡ many sort → EachAllowed (form_of sort) zs → Made sort zs
unfolding many form_of sort_of numbers_of EachAllowed
made Vertex zs n a =
    let (z0, w0, e0, n0) = first_of zs 5 n in
    let (z1, w1, e1, n1) = first_of w0 4 n0 in
    let (z2, w2, e2, n2) = first_of w1 3 n1 in
    let (z3, w3, e3, n3) = first_of w2 2 n2 in
    let (z4, w4, e4, n4) = first_of w3 1 n3 in
    let (z5, w5, e5, n5) = first_of w4 0 n4 in
    record {
      entry = vertex (record { x = z0; y = z1; z = z2 }) (record { x = z3; y = z4; z = z5 });
      sorted = refl;
      numbers = cc (none_of w5 n5);
    }
made Edge zs n a =
    let (z0, w0, e0, n0) = first_of zs 1 n in
    let (z1, w1, e1, n1) = first_of w0 0 n0 in
    let all : zs ≡ z0 ∷ z1 ∷ [] = cc (none_of w1 n1) in
    let b : EachAllowed number_form (z0 ∷ z1 ∷ []) = rw all at a in
    record {
      entry = edge (nat_abs z0) (nat_abs z1);
      sorted = refl;
      numbers = cc (unsigned z0 b.0, unsigned z1 b.1.0);
    }
made Seam zs n a =
    let (z0, w0, e0, n0) = first_of zs 1 n in
    let (z1, w1, e1, n1) = first_of w0 0 n0 in
    let all : zs ≡ z0 ∷ z1 ∷ [] = cc (none_of w1 n1) in
    let b : EachAllowed number_form (z0 ∷ z1 ∷ []) = rw all at a in
    record {
      entry = seam (nat_abs z0) (nat_abs z1);
      sorted = refl;
      numbers = cc (unsigned z0 b.0, unsigned z1 b.1.0);
    }
made Triangle zs n a =
    let (z0, w0, e0, n0) = first_of zs 2 n in
    let (z1, w1, e1, n1) = first_of w0 1 n0 in
    let (z2, w2, e2, n2) = first_of w1 0 n1 in
    let all : zs ≡ z0 ∷ z1 ∷ z2 ∷ [] = cc (none_of w2 n2) in
    let b : EachAllowed number_form (z0 ∷ z1 ∷ z2 ∷ []) = rw all at a in
    record {
      entry = triangle (nat_abs z0) (nat_abs z1) (nat_abs z2);
      sorted = refl;
      numbers = cc (unsigned z0 b.0, unsigned z1 b.1.0, unsigned z2 b.1.1.0);
    }

-- ---- the line of a record is its letter, its row and LF

module _ (text : List ℕ) (at : ℕ) (r : Entry) {next : ℕ} where
  line_put : (sort : Sort) → at < length text → byte_at text at ≡ letter_of r
      → LineStands text (at + 1) (form_of sort) (numbers_of r) next → Stands text at (line_of r) next
  unfolding line_of
  line_put sort h e w =
      let first : Stands text at (letter_of r ∷ []) (at + 1) = rw e at (stands_one text at 0 h) in
      let row : Stands text (at + 1) (row_of number_form (numbers_of r)) w.last = rw (tabbed sort (numbers_of r)) at w.row.stands in
      stands_then first (stands_then row w.ended)

  line_taken : Short digit_limit (numbers_of r) → Stands text at (line_of r) next
      → (byte_at text at ≡ letter_of r) × LineStands text (at + 1) (form_of (sort_of r)) (numbers_of r) next
  unfolding line_of
  line_taken short w =
      let (first, rest) = stands_apart (letter_of r ∷ []) (row_of number_form (numbers_of r) ++ (line_feed ∷ [])) w in
      let (row, ended) = stands_apart (row_of number_form (numbers_of r)) (line_feed ∷ []) rest in (
        front_byte first,
        record {
          last = at + 1 + length (row_of number_form (numbers_of r));
          row = record {
            stands = rw (tabbed (sort_of r) (numbers_of r)) row;
            allowed = entry_allowed r short;
            ends = λ h. rw ended.here (line_ends (drop next text));
          };
          ended = ended;
        },
      )

letter_unique : (s t : Sort) → letter s ≡ letter t → s ≡ t
unfolding letter
letter_unique Vertex Vertex e = refl
letter_unique Vertex Edge e = absurd (omega arith)
letter_unique Vertex Triangle e = absurd (omega arith)
letter_unique Vertex Seam e = absurd (omega arith)
letter_unique Edge Vertex e = absurd (omega arith)
letter_unique Edge Edge e = refl
letter_unique Edge Triangle e = absurd (omega arith)
letter_unique Edge Seam e = absurd (omega arith)
letter_unique Triangle Vertex e = absurd (omega arith)
letter_unique Triangle Edge e = absurd (omega arith)
letter_unique Triangle Triangle e = refl
letter_unique Triangle Seam e = absurd (omega arith)
letter_unique Seam Vertex e = absurd (omega arith)
letter_unique Seam Edge e = absurd (omega arith)
letter_unique Seam Triangle e = absurd (omega arith)
letter_unique Seam Seam e = refl

-- the letter of a kind stands here: what is read of the row behind it decides
pub line_got : (sort : Sort) {text : List ℕ} {at : ℕ} {sizes sizes' : List ℕ} {minus minus' : List Bool} {e : Option ℕ} {l : Option Line}
    → at < length text → byte_at text at ≡ letter sort
    → RowEnded text (at + 1) (form_of sort) (many sort) sizes sizes' minus minus' e → l ≡ line_ended sort e
    → LineRead text at sizes' minus' l
unfolding LineRead line_ended
line_got sort {text} {at} {sizes} {sizes'} {minus} {minus'} {e} {l} h b row is = rw is (by_ending e refl)
  where
    by_ending : (x : Option ℕ) → e ≡ x → LineRead text at sizes' minus' (line_ended sort x)
    by_ending (Some next) q =
        let (counted, line, front) = row_ended row q in
        let zs : List ℤ = row.read.zs in
        let m : Made sort zs = made sort zs counted line.row.allowed in
        let named : byte_at text at ≡ letter_of m.entry = b ∙ sym (entry_letter m.entry ∙ ap letter m.sorted) in
        record {
          entry = m.entry;
          sorted = m.sorted;
          short = rw m.numbers (rw (nine sort) at (allowed_short (form_of sort) zs line.row.allowed));
          stands = line_put text at m.entry sort h named (rw m.numbers line);
          front = rw m.numbers front;
        }
    by_ending None q = λ r next short w.
        let (named, line) = line_taken text at r short w in
        let same : sort_of r ≡ sort = letter_unique (sort_of r) sort (sym (entry_letter r) ∙ sym named ∙ b) in
        row_unended (parts sort) row q (numbers_of r) next (entry_many r ∙ ap many same) (rw same at line)

-- no letter of a record stands here
pub line_other : (text : List ℕ) (at : ℕ) → (byte_at text at ≡ 118 → ⊥) → (byte_at text at ≡ 101 → ⊥) → (byte_at text at ≡ 116 → ⊥)
    → (byte_at text at ≡ 119 → ⊥)
    → NoLine text at
unfolding letter_of
line_other text at v e t w (vertex p q) next short l = v (line_taken text at (vertex p q) short l).0
line_other text at v e t w (edge a b) next short l = e (line_taken text at (edge a b) short l).0
line_other text at v e t w (triangle a b c) next short l = t (line_taken text at (triangle a b c) short l).0
line_other text at v e t w (seam a b) next short l = w (line_taken text at (seam a b) short l).0
