-- What the reader of a block's line promises, and how the tests of the code are those of the definition.
use Rattle.std.specs.Prelude.{Option, Some, None, Result, Ok, Err, Bool, true, ◌&&◌, ◌≡◌, ℕ, ◌+◌, ◌<◌, eqb, ℤ, length}
use Rattle.std.proofs.Math.Bool.{false}
use Rattle.std.proofs.Common.{true≢false, sym, ◌∙◌, subst, arith, eq-eqb, eqb-true}
use mathlib.Core.List.{List, [], ◌∷◌, ◌++◌}
use Rattle.std.proofs.Math.Path.{refl, ap}
use Rattle.std.proofs.Math.ListN.{drop}
use Rattle.whole.specs.Vector.{Vector}
use Rattle.sequences.specs.Pick.{both}
use Rattle.sequences.specs.Stands.{Stands, stands_one, stands_then, stands_apart, stands_from}
use Rattle.sequences.specs.Parts.{none_of, some_left}
use Rattle.decimals.specs.Byte.{byte_at, byte_inside}
use Rattle.text_fields.specs.Field.{front_byte}
use Rattle.text_fields.specs.Rows.{row_of}
use Rattle.text_fields.specs.Ended.{RowEnded, InFront, row_ended, row_unended}
use Rattle.text_fields.specs.Tabbed.{tab_parts, line_ends, first_of}
use Rattle.meaning.specs.Limits.{digit_limit}
use Rattle.meaning.specs.Refusals.{refused}
use Rattle.meaning.specs.Lines.{Fault, unformed, misplaced}
use Rattle.meaning.specs.Text.{Entry, vertex, edge, triangle, seam, letter_of, numbers_of, line_of, line_feed, Short, entry_checks}
use Rattle.answers.specs.Answering.{refuses}
use Rattle.text_line.specs.Rendered.{coordinate_form, line_is}
use Rattle.text_line.specs.Reading.{letter, many, form_of, line_ended, LineRead, line_got, line_other, short_signed, allowed_short}
use Rattle.text_line.specs.declared.Sort.{Sort}
use Rattle.meaning.specs.SeriesText.{Item, of, ends, next, three_of, item_line, SoFar, six_numbers, ItemFormed, item_checks, series_lines}
use Rattle.series_line.specs.Rendered.{ends_line_is, letter_of_six, six_not_here}
use Rattle.series_line.specs.declared.BlockLine.{BlockLine}
use Rattle.series_line.specs.declared.BlockLine.TheVariants.{Ends, Next}
use Rattle.series_line.specs.declared.LineFault.{LineFault}
use Rattle.series_line.specs.declared.LineFault.TheVariants.{Late, Bad}

-- the line `n` stands here
abbrev pub next_here : List ℕ → ℕ → Bool
next_here text at = eqb (byte_at text at) 110 && eqb (byte_at text (at + 1)) line_feed

unfoldable pub ends_found : Option ℕ → Result BlockLine LineFault
ends_found (Some n) = Ok (Ends n)
ends_found None = Err Bad

unfoldable pub part_found : Option ℕ → LineFault
part_found (Some n) = Late
part_found None = Bad

-- a line that is no `v` line and no `n`
pub record OtherHere (text : List ℕ) (at : ℕ) : Type 0 where
  pub inside : at < length text
  pub no_n : next_here text at ≡ false
  pub no_v : byte_at text at ≡ 118 → ⊥

-- ---- the promise

-- the next end of a vertex stands here, its numbers in front of two buffers
pub record EndsGot (text : List ℕ) (at : ℕ) (sizes : List ℕ) (minus : List Bool) (after : ℕ) : Type 0 where
  pub place : Vector
  pub short : Short digit_limit (three_of place)
  pub stands : Stands text at (item_line (ends place)) after
  pub front : InFront (three_of place) sizes minus

-- the line is at fault wherever an `n` stands above it
abbrev pub BlockFault : List ℕ → ℕ → ℕ → Type 0
BlockFault text at n = (x : SoFar) → x.begun ≡ true → Fault series_lines x (drop at text) n

unfoldable pub BlockLineRead : List ℕ → ℕ → List ℕ → List Bool → Result BlockLine LineFault → Type 0
BlockLineRead text at sizes minus (Ok (Ends after)) = EndsGot text at sizes minus after
BlockLineRead text at sizes minus (Ok (Next after)) = Stands text at (item_line next) after
BlockLineRead text at sizes minus (Err Late) = BlockFault text at 10
BlockLineRead text at sizes minus (Err Bad) = BlockFault text at 9

of_line : (r : Entry) → item_line (of r) ≡ line_of r
unfolding item_line
of_line r = refl

-- ---- `n`

pub next_stands : (text : List ℕ) (at : ℕ) → next_here text at ≡ true → Stands text at (item_line next) (at + 2)
unfolding item_line
next_stands text at test =
    let (letter, feed) = both (eqb (byte_at text at) 110) (eqb (byte_at text (at + 1)) line_feed) test in
    let n : byte_at text at ≡ 110 = eqb-true (byte_at text at) 110 letter in
    let f : byte_at text (at + 1) ≡ line_feed = eqb-true (byte_at text (at + 1)) line_feed feed in
    let inside : at < length text = byte_inside text at (λ z. omega arith) in
    let inside' : at + 1 < length text = byte_inside text (at + 1) (λ z. omega arith) in
    let a : Stands text at (110 ∷ []) (at + 1) = rw n at (stands_one text at 0 inside) in
    let b : Stands text (at + 1) (line_feed ∷ []) (at + 1 + 1) = rw f at (stands_one text (at + 1) 0 inside') in
    subst (λ (m : ℕ). Stands text at (110 ∷ line_feed ∷ []) m) (omega arith) (stands_then a b)

pub no_next : (text : List ℕ) (at : ℕ) → next_here text at ≡ false → (rest : List ℕ) → drop at text ≡ item_line next ++ rest → ⊥
unfolding item_line
no_next text at test rest e =
    let w : Stands text at (110 ∷ line_feed ∷ []) (at + 2) = stands_from text at (110 ∷ line_feed ∷ []) rest e in
    let (a, b) = stands_apart (110 ∷ []) (line_feed ∷ []) w in
    let n : byte_at text at ≡ 110 = front_byte a in
    let f : byte_at text (at + 1) ≡ line_feed = front_byte b in
    let yes : next_here text at ≡ true = rw (eq-eqb (byte_at text at) 110 n, eq-eqb (byte_at text (at + 1)) line_feed f) in
    true≢false (sym yes ∙ test)

-- ---- a `v` line

vector_of : (zs : List ℤ) → length zs ≡ 3 → (p : Vector) × (zs ≡ three_of p)
vector_of zs n =
    let (z0, w0, e0, n0) = first_of zs 2 n in
    let (z1, w1, e1, n1) = first_of w0 1 n0 in
    let (z2, w2, e2, n2) = first_of w1 0 n1 in
    (record { x = z0; y = z1; z = z2 }, cc (none_of w2 n2))

first_byte : (text : List ℕ) (at : ℕ) {b : ℕ} (l : List ℕ) → drop at text ≡ b ∷ l → byte_at text at ≡ b
first_byte text at {b} l e = front_byte (stands_from text at (b ∷ []) l e)

-- a line of three numbers that is formed was read
no_ends : {text : List ℕ} {at : ℕ} {sizes sizes' : List ℕ} {minus minus' : List Bool} {e : Option ℕ} → at < length text
    → RowEnded text (at + 1) coordinate_form 3 sizes sizes' minus minus' e → e ≡ None
    → (p : Vector) (rest : List ℕ) → Short digit_limit (three_of p) → drop at text ≡ item_line (ends p) ++ rest → ⊥
unfolding item_line
no_ends {text} {at} h row q p rest short eq =
    let line : List ℕ = row_of coordinate_form (three_of p) in
    let (first, more) = stands_apart (118 ∷ []) (line ++ (line_feed ∷ [])) (stands_from text at (118 ∷ (line ++ (line_feed ∷ []))) rest eq) in
    let (numbers, ended) = stands_apart line (line_feed ∷ []) more in
    row_unended tab_parts row q (three_of p) _ refl
    (record {
      last = at + 1 + length line;
      row = record {
        stands = numbers;
        allowed = short_signed (three_of p) short;
        ends = λ k. rw ended.here (line_ends _);
      };
      ended = ended;
    })

pub ends_got : {text : List ℕ} {at : ℕ} {sizes sizes' : List ℕ} {minus minus' : List Bool} {e : Option ℕ} {r : Result BlockLine LineFault}
    → at < length text → byte_at text at ≡ 118
    → RowEnded text (at + 1) coordinate_form 3 sizes sizes' minus minus' e → r ≡ ends_found e
    → BlockLineRead text at sizes' minus' r
unfolding BlockLineRead ends_found item_line ItemFormed
ends_got {text} {at} {sizes} {sizes'} {minus} {minus'} {e} {r} h b row is = rw is (by_ending e refl)
  where
    by_ending : (x : Option ℕ) → e ≡ x → BlockLineRead text at sizes' minus' (ends_found x)
    by_ending (Some after) q =
        let (counted, line, front) = row_ended row q in
        let (p, numbers) = vector_of row.read.zs counted in
        let first : Stands text at (118 ∷ []) (at + 1) = rw b at (stands_one text at 0 h) in
        record {
          place = p;
          short = rw numbers at (allowed_short coordinate_form row.read.zs line.row.allowed);
          stands = rw numbers at (stands_then first (stands_then line.row.stands line.ended));
          front = rw numbers at front;
        }
    by_ending None q = λ x begun. unformed refl (some_left text at h) (never x begun)
      where
        never : (x : SoFar) → x.begun ≡ true → (i : Item) (rest : List ℕ) → ItemFormed x i → drop at text ≡ item_line i ++ rest → ⊥
        never x begun (of a) rest f eq =
            six_not_here x a begun (letter_of_six a (sym (first_byte text at _ (eq ∙ line_is a rest)) ∙ b)) f
        never x begun (ends p) rest f eq = no_ends h row q p rest f.1 eq
        never x begun next rest f eq = omega (arith, first_byte text at _ eq, b)

-- ---- any other line

not_six : (r : Entry) → (letter_of r ≡ 118 → ⊥) → six_numbers r ≡ false
unfolding letter_of six_numbers
not_six (vertex p q) never = absurd (never refl)
not_six (edge a b) never = refl
not_six (triangle a b c) never = refl
not_six (seam i j) never = refl

module _ (text : List ℕ) (at : ℕ) (h : OtherHere text at) where
  -- a record of a scene stands here: 10
  late_line : (r : Entry) (rest : List ℕ) → Short digit_limit (numbers_of r) → drop at text ≡ line_of r ++ rest → BlockFault text at 10
  unfolding ItemFormed item_line item_checks
  late_line r rest short eq x begun =
      let six : six_numbers r ≡ false = not_six r (λ e. h.no_v (first_byte text at _ (eq ∙ line_is r rest) ∙ e)) in
      let formed : x.begun && six_numbers r ≡ false = rw (begun, six) in
      misplaced (of r) rest (formed, short) eq
      (refuses (λ t. Unit {0}) (record { number = 10; holds = x.begun; carries = 0 }) (entry_checks x.scene r) (refused 10 0) begun refl)

  -- none does: 9
  bad_line : ((r : Entry) (rest : List ℕ) → Short digit_limit (numbers_of r) → drop at text ≡ line_of r ++ rest → ⊥) → BlockFault text at 9
  unfolding ItemFormed
  bad_line nothing x begun = unformed refl (some_left text at h.inside) never
    where
      never : (i : Item) (rest : List ℕ) → ItemFormed x i → drop at text ≡ item_line i ++ rest → ⊥
      never (of a) rest f eq = nothing a rest f.1 (eq ∙ ap (λ (l : List ℕ). l ++ rest) (of_line a))
      never (ends p) rest f eq = h.no_v (first_byte text at _ (eq ∙ ends_line_is p rest))
      never next rest f eq = no_next text at h.no_n rest eq

  -- the letter of a kind stands here: what is read of the row behind it decides
  pub part_got : (sort : Sort) {sizes sizes' : List ℕ} {minus minus' : List Bool} {e : Option ℕ} {r : LineFault} → byte_at text at ≡ letter sort
      → RowEnded text (at + 1) (form_of sort) (many sort) sizes sizes' minus minus' e → r ≡ part_found e
      → BlockLineRead text at sizes' minus' (Err r)
  unfolding BlockLineRead part_found LineRead line_ended
  part_got sort {sizes} {sizes'} {minus} {minus'} {e} {r} b row is = rw is (by_ending e refl)
    where
      by_ending : (x : Option ℕ) → e ≡ x → BlockLineRead text at sizes' minus' (Err (part_found x))
      by_ending (Some after) q =
          let got : LineRead text at sizes' minus' (line_ended sort (Some after)) = line_got sort h.inside b row (ap (line_ended sort) (sym q)) in
          late_line got.entry _ got.short got.stands.here
      by_ending None q =
          let none_here : LineRead text at sizes' minus' (line_ended sort None) = line_got sort h.inside b row (ap (line_ended sort) (sym q)) in
          bad_line (λ r rest short eq. none_here r _ short (stands_from text at (line_of r) rest eq))

  -- no letter of a record stands here
  pub no_part : (sizes : List ℕ) (minus : List Bool) → (byte_at text at ≡ 101 → ⊥) → (byte_at text at ≡ 116 → ⊥) → (byte_at text at ≡ 119 → ⊥)
      → BlockLineRead text at sizes minus (Err Bad)
  unfolding BlockLineRead
  no_part sizes minus e t w =
      bad_line (λ r rest short eq. line_other text at h.no_v e t w r _ short (stands_from text at (line_of r) rest eq))
