-- A row that ends its line: as many fields as there should be, and LF behind them.
use Rattle.std.specs.Prelude.{Option, Some, None, Bool, true, ◌&&◌, List, [], ◌∷◌, map, ◌≡◌, ℕ, ◌+◌, ◌<◌, eqb, ℤ, nat_abs, length, take}
use Rattle.std.proofs.Common.{⊎_elim, sym, ap, ◌∙◌, zero-add, arith, eq-eqb, eqb-true}
use Rattle.std.proofs.lemmas.List.{length-map}
use Rattle.sequences.specs.Pick.{pick, pick_gave, both}
use Rattle.sequences.specs.Stands.{Stands, stands_one}
use Rattle.decimals.specs.Byte.{IsDigit, byte_at, byte_inside}
use Rattle.meaning.specs.Text.{line_feed}
use Rattle.text_fields.specs.Field.{negative, front_byte}
use Rattle.text_fields.specs.Rows.{RowStands, RowRead, row_unique}
use Rattle.text_fields.specs.declared.Form.{Form}
use Rattle.text_fields.specs.declared.Row.{Row}

-- the fields were read, and the line ends behind as many as there should be, or not
pub record RowEnded (s : List ℕ) (at : ℕ) (f : Form) (count : ℕ) (sizes sizes' : List ℕ) (minus minus' : List Bool) (r : Option ℕ) : Type 0 where
  pub row : Row
  pub read : RowRead s at f count sizes sizes' minus minus' row
  pub ends : r ≡ pick (eqb row.count count && eqb (byte_at s row.next) line_feed) (Some (row.next + 1)) None

-- numbers of a line, from a place behind its first field to the next line
pub record LineStands (s : List ℕ) (at : ℕ) (f : Form) (zs : List ℤ) (next : ℕ) : Type 0 where
  pub last : ℕ
  pub row : RowStands s at f zs last
  pub ended : Stands s last (line_feed ∷ []) next

-- the sizes and the signs stand in front of two buffers
pub record InFront (zs : List ℤ) (sizes : List ℕ) (minus : List Bool) : Type 0 where
  pub sized : take (length zs) sizes ≡ map nat_abs zs
  pub signed : take (length zs) minus ≡ map negative zs

count_is : {s : List ℕ} {at : ℕ} {f : Form} {count : ℕ} {sizes sizes' : List ℕ} {minus minus' : List Bool} {r : Row}
    (e : RowRead s at f count sizes sizes' minus minus' r) → r.count ≡ length e.zs
count_is e = e.sized.place ∙ zero-add _ ∙ length-map e.zs nat_abs

module _ {s : List ℕ} {at : ℕ} {f : Form} {count : ℕ} {sizes sizes' : List ℕ} {minus minus' : List Bool} {r : Option ℕ} where
  -- the line ends where it should: the numbers stand there, and they were read
  pub row_ended : {next : ℕ} (e : RowEnded s at f count sizes sizes' minus minus' r) → r ≡ Some next
      → (length e.read.zs ≡ count) × LineStands s at f e.read.zs next × InFront e.read.zs sizes' minus'
  row_ended {next} e a =
      let n : ℕ = e.row.next in
      ⊎_elim
      (λ g.
      let (counted, ended) = both (eqb e.row.count count) (eqb (byte_at s n) line_feed) g.0 in
      let byte : byte_at s n ≡ line_feed = eqb-true (byte_at s n) line_feed ended in
      let inside : n < length s = byte_inside s n (λ z. omega arith) in
      let place : n + 1 ≡ next = cc g.1 in
      let many : e.row.count ≡ length e.read.zs = count_is e.read in (
        sym many ∙ eqb-true e.row.count count counted,
        record { last = n; row = e.read.row; ended = rw (byte, place) at (stands_one s n 0 inside) },
        record {
          sized = rw (← many) e.read.sized.front;
          signed = rw (← many) e.read.signed.front;
        },
      ))
      (λ g. let z : ◌≡◌ {A = ℕ} 0 1 = cc g.1 in absurd (omega arith))
      (pick_gave (λ x. x ≡ Some next) (eqb e.row.count count && eqb (byte_at s n) line_feed) (sym e.ends ∙ a))

  -- the line does not end where it should: no such numbers stand there
  pub row_unended : ¬ IsDigit f.separator → RowEnded s at f count sizes sizes' minus minus' r → r ≡ None
      → (zs : List ℤ) (next : ℕ) → length zs ≡ count → LineStands s at f zs next → ⊥
  row_unended parts e a zs next n w =
      let (same, place) =
      row_unique s f parts count e.read.zs zs e.read.row w.row e.read.most (omega arith) e.read.stops
      (λ h. absurd (omega arith)) in
      let many : e.row.count ≡ count = cc (count_is e.read, ap (length {A = ℤ}) same) in
      let byte : byte_at s e.row.next ≡ line_feed = ap (byte_at s) place ∙ front_byte w.ended in
      let z : ◌≡◌ {A = ℕ} 0 1 = cc (e.ends, eq-eqb e.row.count count many, eq-eqb (byte_at s e.row.next) line_feed byte) in
      omega arith

-- ---- from the tests of the code

pub ended_inside : (s : List ℕ) (n : ℕ) {b : ℕ} (t : Bool) → b ≡ byte_at s n → t && eqb b line_feed ≡ true → n < length s
ended_inside s n {b} t e test =
    let byte : b ≡ line_feed = eqb-true b line_feed (both t (eqb b line_feed) test).1 in
    byte_inside s n (λ z. omega arith)

pub ended_by : {s : List ℕ} {at : ℕ} {f : Form} {count : ℕ} {sizes sizes' : List ℕ} {minus minus' : List Bool} {r : Row} {b : ℕ} (t : Bool)
    → RowRead s at f count sizes sizes' minus minus' r → b ≡ byte_at s r.next → eqb r.count count && eqb b line_feed ≡ t
    → RowEnded s at f count sizes sizes' minus minus' (pick t (Some (r.next + 1)) None)
ended_by {r} t read e test = record { row = r; read = read; ends = rw (← e, test) }
