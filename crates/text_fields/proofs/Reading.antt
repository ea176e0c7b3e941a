-- The loop of `read_fields`: so many fields are read, and their sizes and signs stand in front of the buffers.
use mathlib.Core.Bool.{Bool}
use mathlib.Core.List.{List, [], ◌∷◌, ◌++◌, map, map-append}
use mathlib.Core.Path.{◌≡◌, ◌∙◌}
use Prim.Native.Nat.{ℕ, ◌+◌, ◌≤◌, ◌<◌}
use native.Mathlib.Nat.{zero-add}
use native.Mathlib.Omega.{arith}
use lib.IntN.{ℤ, nat_abs}
use lib.ListN.{length, set, length-map}
use Rattle.sequences.specs.Wrote.{Wrote, wrote_none, wrote_one, wrote_then}
use Rattle.text_fields.specs.Field.{Found, Got, FieldStands, negative}
use Rattle.text_fields.specs.Rows.{RowStands, RowRead, row_none, row_more}
use Rattle.text_fields.specs.declared.Form.{Form}
use Rattle.text_fields.specs.declared.Field.{Field}
use Rattle.std.specs.Prelude.{Option, Some, None}

pub record RowReading (s : List ℕ) (at : ℕ) (f : Form) (count : ℕ) (sizes₀ sizes : List ℕ) (minus₀ minus : List Bool) (found next : ℕ) : Type 0 where
  pub zs : List ℤ
  pub row : RowStands s at f zs next
  pub sized : Wrote sizes₀ 0 (map nat_abs zs) sizes found
  pub signed : Wrote minus₀ 0 (map negative zs) minus found
  pub within : found ≤ count

pub starts : (s : List ℕ) (at : ℕ) (f : Form) (count : ℕ) (sizes : List ℕ) (minus : List Bool)
    → RowReading s at f count sizes sizes minus minus 0 at
starts s at f count sizes minus =
    record { zs = []; row = row_none at; sized = wrote_none sizes 0; signed = wrote_none minus 0; within = omega arith }

module _ {s : List ℕ} {at : ℕ} {f : Form} {count : ℕ} {sizes₀ sizes : List ℕ} {minus₀ minus : List Bool} {found next : ℕ} where
  read : (r : RowReading s at f count sizes₀ sizes minus₀ minus found next) → found ≡ length r.zs
  read r = r.sized.place ∙ zero-add _ ∙ length-map r.zs nat_abs

  pub more : {r : Option Field} {field : Field} → RowReading s at f count sizes₀ sizes minus₀ minus found next
      → found < count → count ≤ length sizes₀ → count ≤ length minus₀
      → Found (FieldStands s next f) r → r ≡ Some field
      → RowReading s at f count sizes₀ (set sizes found field.size) minus₀ (set minus found field.minus) (found + 1) field.next
  unfolding Found
  more {field} r l u v g e =
      let got : Got (FieldStands s next f) field.minus field.size field.next = rw e at g in
      record {
        zs = r.zs ++ (got.z ∷ []);
        row = row_more r.row got.there;
        sized = rw (map-append, ← got.sized) (wrote_then r.sized (wrote_one sizes found field.size (omega (arith, r.sized.same))));
        signed = rw (map-append, ← got.signed) (wrote_then r.signed (wrote_one minus found field.minus (omega (arith, r.signed.same))));
        within = omega arith;
      }

  -- the next field is none, or there are enough
  pub stopped : {r : Option Field} → RowReading s at f count sizes₀ sizes minus₀ minus found next → Found (FieldStands s next f) r → r ≡ None
      → RowRead s at f count sizes₀ sizes minus₀ minus (record { count = found; next = next })
  unfolding Found
  stopped r g e =
      record {
        zs = r.zs;
        row = r.row;
        sized = r.sized;
        signed = r.signed;
        most = omega (arith, read r, r.within);
        stops = λ h. rw e at g;
      }

  pub enough : RowReading s at f count sizes₀ sizes minus₀ minus found next → count ≤ found
      → RowRead s at f count sizes₀ sizes minus₀ minus (record { count = found; next = next })
  enough r l =
      record {
        zs = r.zs;
        row = r.row;
        sized = r.sized;
        signed = r.signed;
        most = omega (arith, read r, r.within);
        stops = λ h. absurd (omega (arith, read r));
      }
