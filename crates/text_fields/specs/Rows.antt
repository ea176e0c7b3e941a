-- Fields in a row, what a reader of them promises, and that only one answer meets the promise.
use Rattle.std.specs.Prelude.{Bool, ◌≡◌, refl, ℤ, nat_abs, drop}
use mathlib.Core.List.{List, [], ◌∷◌, ◌++◌, map, map-append, append_assoc, append-nil}
use Rattle.std.proofs.Common.{sym, arith}
use Prim.Native.Nat.{ℕ, ◌+◌, ◌-◌, ◌≤◌, ◌<◌}
use Rattle.std.proofs.Math.Nat.{suc_inj}
use Rattle.std.proofs.Math.ListN.{length}
use Rattle.sequences.specs.Stands.{Stands, stands_none, stands_then, stands_apart}
use Rattle.sequences.specs.Wrote.{Wrote}
use Rattle.decimals.specs.Byte.{IsDigit}
use Rattle.meaning.specs.Text.{numeral, further}
use Rattle.text_fields.specs.Numerals.{Ends, numeral_cancel}
use Rattle.text_fields.specs.Field.{Allowed, FieldStands, negative, field_unique}
use Rattle.text_fields.specs.declared.Form.{Form}
use Rattle.text_fields.specs.declared.Row.{Row}

unfoldable pub EachAllowed : Form → List ℤ → Type 0
EachAllowed f [] = Unit
EachAllowed f (z ∷ zs) = Allowed f z × EachAllowed f zs

-- the bytes of a row
abbrev pub row_of : Form → List ℤ → List ℕ
row_of f zs = further f.separator (map numeral zs)

pub record RowStands (s : List ℕ) (at : ℕ) (f : Form) (zs : List ℤ) (next : ℕ) : Type 0 where
  pub stands : Stands s at (row_of f zs) next
  pub allowed : EachAllowed f zs
  pub ends : 0 < length zs → Ends (drop next s)

-- no field stands at the place
abbrev pub NoField : List ℕ → ℕ → Form → Type 0
NoField s at f = (z : ℤ) (next : ℕ) → FieldStands s at f z next → ⊥

-- as many fields as stand there, and not more than count; their sizes and their signs were written to the front of two buffers
pub record RowRead (s : List ℕ) (at : ℕ) (f : Form) (count : ℕ) (sizes sizes' : List ℕ) (minus minus' : List Bool) (r : Row) : Type 0 where
  pub zs : List ℤ
  pub row : RowStands s at f zs r.next
  pub sized : Wrote sizes 0 (map nat_abs zs) sizes' r.count
  pub signed : Wrote minus 0 (map negative zs) minus' r.count
  pub most : length zs ≤ count
  pub stops : length zs < count → NoField s r.next f

further_append : (b : ℕ) (l k : List (List ℕ)) → further b (l ++ k) ≡ further b l ++ further b k
unfolding further
further_append b [] k = refl
further_append b (x ∷ l) k = cc (further_append b l k, append_assoc (b ∷ x) (further b l) (further b k))

row_append : (f : Form) (l k : List ℤ) → row_of f (l ++ k) ≡ row_of f l ++ row_of f k
row_append f l k = cc (map-append numeral l k, further_append f.separator (map numeral l) (map numeral k))

allowed_append : (f : Form) (l k : List ℤ) → EachAllowed f l → EachAllowed f k → EachAllowed f (l ++ k)
unfolding EachAllowed
allowed_append f [] k a b = b
allowed_append f (z ∷ l) k a b = (a.0, allowed_append f l k a.1 b)

module _ {s : List ℕ} {f : Form} where
  pub row_none : (at : ℕ) → RowStands s at f [] at
  unfolding further EachAllowed
  row_none at = record { stands = stands_none s at; allowed = tt; ends = λ h. absurd (omega arith) }

  -- one field is a row, and one more is one longer
  row_one : {at : ℕ} {z : ℤ} {next : ℕ} → FieldStands s at f z next → RowStands s at f (z ∷ []) next
  unfolding further EachAllowed
  row_one {at} {z} {next} v =
      record {
        stands = rw append-nil (stands_then v.separated v.number.stands);
        allowed = (v.number.allowed, tt);
        ends = λ h. v.number.ends;
      }

  pub row_more : {at : ℕ} {zs : List ℤ} {m : ℕ} {z : ℤ} {next : ℕ}
      → RowStands s at f zs m → FieldStands s m f z next → RowStands s at f (zs ++ (z ∷ [])) next
  row_more {zs} {z} v w =
      let one : RowStands s _ f (z ∷ []) _ = row_one w in
      record {
        stands = rw (row_append f zs (z ∷ [])) (stands_then v.stands one.stands);
        allowed = allowed_append f zs (z ∷ []) v.allowed one.allowed;
        ends = λ h. w.number.ends;
      }

-- a row begins with no digit, if what follows does not
parted : (f : Form) → ¬ IsDigit f.separator → (zs : List ℤ) (x : List ℕ) → Ends x → Ends (row_of f zs ++ x)
unfolding further Ends
parted f parts [] x e = e
parted f parts (z ∷ zs) x e = parts

-- two rows of as many numbers do not begin one text
pub row_cancel : (f : Form) → ¬ IsDigit f.separator → (zs ws : List ℤ) (x y : List ℕ) → length zs ≡ length ws → Ends x → Ends y
    → row_of f zs ++ x ≡ row_of f ws ++ y → (zs ≡ ws) × (x ≡ y)
unfolding further
row_cancel f parts [] [] x y n s t e = (refl, e)
row_cancel f parts [] (w ∷ ws) x y n s t e = absurd (omega arith)
row_cancel f parts (z ∷ zs) [] x y n s t e = absurd (omega arith)
row_cancel f parts (z ∷ zs) (w ∷ ws) x y n s t e =
    let (same, rest) =
    numeral_cancel z w (row_of f zs ++ x) (row_of f ws ++ y) (parted f parts zs x s) (parted f parts ws y t)
    (cc (append_assoc (numeral z) (row_of f zs) x, append_assoc (numeral w) (row_of f ws) y)) in
    let (sames, more) = row_cancel f parts zs ws x y (suc_inj n) s t rest in
    (λ i. same i ∷ sames i, more)

-- behind the first field, where the separator is no digit, the rest of the row stands
module _ (s : List ℕ) (f : Form) (parts : ¬ IsDigit f.separator) where
  pub row_first : {at next : ℕ} (z : ℤ) (zs : List ℤ) → RowStands s at f (z ∷ zs) next
      → (m : ℕ) × FieldStands s at f z m × RowStands s m f zs next
  unfolding further EachAllowed
  row_first {at} {next} z zs v =
      let b : List ℕ = f.separator ∷ [] in
      let (one, rest) = stands_apart (b ++ numeral z) (row_of f zs) v.stands in
      let (separated, number) = stands_apart b (numeral z) one in
      let m : ℕ = at + length (b ++ numeral z) in
      let ends : Ends (drop m s) = rw rest.here (parted f parts zs (drop next s) (v.ends (omega arith))) in (
        m,
        record {
          separated = separated;
          number = record { stands = number; allowed = v.allowed.0; ends = ends };
        },
        record { stands = rest; allowed = v.allowed.1; ends = λ h. v.ends (omega arith) },
      )

  -- of the rows of at most so many fields, one can not go on
  pub row_unique : {at n m : ℕ} (count : ℕ) (zs ws : List ℤ) → RowStands s at f zs n → RowStands s at f ws m
      → length zs ≤ count → length ws ≤ count → (length zs < count → NoField s n f) → (length ws < count → NoField s m f)
      → (zs ≡ ws) × (n ≡ m)
  unfolding further
  row_unique count [] [] v w a b p q = (refl, cc (v.stands.place, w.stands.place))
  row_unique {at} {n} {m} count [] (y ∷ ws) v w a b p q =
      let (k, first, rest) = row_first y ws w in
      let here : n ≡ at = omega (arith, v.stands.place) in
      absurd (p (omega arith) y k (rw here first))
  row_unique {at} {n} {m} count (x ∷ zs) [] v w a b p q =
      let (k, first, rest) = row_first x zs v in
      let here : m ≡ at = omega (arith, w.stands.place) in
      absurd (q (omega arith) x k (rw here first))
  row_unique {at} {n} {m} count (x ∷ zs) (y ∷ ws) v w a b p q =
      let (k, first, rest) = row_first x zs v in
      let (j, second, others) = row_first y ws w in
      let (same, place) = field_unique first second in
      let (same_rest, next) =
      row_unique {at = k} (count - 1) zs ws rest (rw (sym place) at others) (omega arith) (omega arith) (λ h. p (omega arith)) (λ h. q (omega arith)) in
      (λ i. same i ∷ same_rest i, next)
