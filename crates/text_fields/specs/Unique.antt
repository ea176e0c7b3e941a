-- Only one answer meets the promise of a reader of fields.
use Rattle.std.specs.Prelude.{Option, Some, None, Bool, List, map, ◌≡◌, refl, ℕ, nat_abs}
use Rattle.std.proofs.Common.{sym, ap, ◌∙◌}
use Rattle.sequences.specs.Wrote.{Wrote, wrote_unique}
use Rattle.decimals.specs.Byte.{IsDigit}
use Rattle.text_fields.specs.Field.{Found, FieldStands, negative, field_unique}
use Rattle.text_fields.specs.Rows.{RowRead, row_unique}
use Rattle.text_fields.specs.Ended.{RowEnded}
use Rattle.text_fields.specs.declared.Form.{Form}
use Rattle.text_fields.specs.declared.Row.{Row}
use Rattle.text_fields.specs.declared.Field.{Field}

pub one_field : (s : List ℕ) (at : ℕ) (f : Form) (r r' : Option Field) → Found (FieldStands s at f) r → Found (FieldStands s at f) r' → r ≡ r'
unfolding Found
one_field s at f (Some a) (Some b) g h =
    let (same, place) = field_unique g.there h.there in
    let sign : a.minus ≡ b.minus = g.signed ∙ ap negative same ∙ sym h.signed in
    let size : a.size ≡ b.size = g.sized ∙ ap nat_abs same ∙ sym h.sized in
    λ i. Some (record { minus = sign i; size = size i; next = place i })
one_field s at f (Some a) None g none = absurd (none g.z a.next g.there)
one_field s at f None (Some b) none h = absurd (none h.z b.next h.there)
one_field s at f None None none none' = refl

pub one_row : (s : List ℕ) (at : ℕ) (f : Form) → ¬ IsDigit f.separator → (count : ℕ) (sizes u v : List ℕ) (minus x y : List Bool) (r r' : Row)
    → RowRead s at f count sizes u minus x r → RowRead s at f count sizes v minus y r' → (r ≡ r') × (u ≡ v) × (x ≡ y)
one_row s at f parts count sizes u v minus x y r r' g h =
    let (same, place) =
    row_unique s f parts count g.zs h.zs g.row h.row g.most h.most g.stops h.stops in
    let sized : Wrote sizes 0 (map nat_abs g.zs) v r'.count = rw (sym same) at h.sized in
    let signed : Wrote minus 0 (map negative g.zs) y r'.count = rw (sym same) at h.signed in
    let (buffer, count) = wrote_unique g.sized sized in
    (λ i. record { count = count i; next = place i }, buffer, (wrote_unique g.signed signed).0)

pub one_ending : (s : List ℕ) (at : ℕ) (f : Form) → ¬ IsDigit f.separator → (count : ℕ) (sizes u v : List ℕ) (minus x y : List Bool) (r r' : Option ℕ)
    → RowEnded s at f count sizes u minus x r → RowEnded s at f count sizes v minus y r' → (r ≡ r') × (u ≡ v) × (x ≡ y)
one_ending s at f parts count sizes u v minus x y r r' g h =
    let (same, buffer, signs) =
    one_row s at f parts count sizes u v minus x y g.row h.row g.read h.read in
    (cc (g.ends, h.ends), buffer, signs)
