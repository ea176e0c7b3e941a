-- A field that stands in a text, and what a reader of one promises.
use Rattle.std.specs.Prelude.{Option, Some, None, Bool, true, false, ◌&&◌, List, [], ◌∷◌, eqb, ℤ, nat_abs, drop}
use Rattle.std.proofs.Math.Bool.{true≢false}
use Rattle.std.proofs.Math.Path.{◌≡◌, refl, ap}
use Rattle.std.proofs.Common.{sym, ◌∙◌, add-zero, length-drop, eq-eqb, eqb-true}
use Prim.Native.Nat.{ℕ, zero, suc, ◌+◌, ◌≤◌, ◌<◌}
use native.Mathlib.Omega.{arith}
use Rattle.std.proofs.Math.IntN.{pos, negsuc}
use Rattle.std.proofs.Math.ListN.{length}
use Rattle.sequences.specs.Pick.{both}
use Rattle.sequences.specs.Stands.{Stands, stands_one, stands_then, stands_apart, stands_at}
use Rattle.decimals.specs.Byte.{byte_at, digit_test, byte_inside}
use Rattle.decimals.specs.Digits.{digits}
use Rattle.decimals.specs.Number.{read_as, read_same, number_at, NumberStands, number_is, number_read}
use Rattle.decimals.specs.declared.NumberRead.{NumberRead}
use Rattle.meaning.specs.Text.{numeral, minus_sign}
use Rattle.text_fields.specs.Numerals.{Ends, ends_at, ends_byte, digits_plain, numeral_cancel}
use Rattle.text_fields.specs.declared.Form.{Form}
use Rattle.text_fields.specs.declared.Field.{Field}

abbrev pub negative : ℤ → Bool
negative (pos n) = false
negative (negsuc n) = true

-- the form has room for the number, and for its minus
pub record Allowed (f : Form) (z : ℤ) : Type 0 where
  pub short : length (digits (nat_abs z)) ≤ f.most
  pub sign : negative z ≡ true → f.signed ≡ true

-- a number that no digit follows
pub record NumeralStands (s : List ℕ) (at : ℕ) (f : Form) (z : ℤ) (next : ℕ) : Type 0 where
  pub stands : Stands s at (numeral z) next
  pub allowed : Allowed f z
  pub ends : Ends (drop next s)

-- a separator, and a number that no digit follows
pub record FieldStands (s : List ℕ) (at : ℕ) (f : Form) (z : ℤ) (next : ℕ) : Type 0 where
  pub separated : Stands s at (f.separator ∷ []) (at + 1)
  pub number : NumeralStands s (at + 1) f z next

-- what was found: the number's sign and size, and where it ends; or that there is no such number
pub record Got (There : ℤ → ℕ → Type 0) (minus : Bool) (size next : ℕ) : Type 0 where
  pub z : ℤ
  pub signed : minus ≡ negative z
  pub sized : size ≡ nat_abs z
  pub there : There z next

unfoldable pub Found : (ℤ → ℕ → Type 0) → Option Field → Type 0
Found There (Some field) = Got There field.minus field.size field.next
Found There None = (z : ℤ) (next : ℕ) → There z next → ⊥

abbrev pub field_as : Bool → ℕ → ℕ → Option Field
field_as minus size next = Some (record { minus = minus; size = size; next = next })

-- two such numbers, or fields, are one
module _ {s : List ℕ} {f : Form} {a b : ℤ} {n m : ℕ} where
  pub numeral_unique : {at : ℕ} → NumeralStands s at f a n → NumeralStands s at f b m → (a ≡ b) × (n ≡ m)
  numeral_unique v w =
      let (same, rest) =
      numeral_cancel a b (drop n s) (drop m s) v.ends w.ends (sym v.stands.here ∙ w.stands.here) in
      (same, cc (v.stands.place, w.stands.place))

  pub field_unique : {at : ℕ} → FieldStands s at f a n → FieldStands s at f b m → (a ≡ b) × (n ≡ m)
  field_unique v w = numeral_unique v.number w.number

-- ---- a number without a minus

pub record PlainStands (s : List ℕ) (at most n next : ℕ) : Type 0 where
  pub stands : Stands s at (digits n) next
  pub short : length (digits n) ≤ most
  pub ends : digit_test (byte_at s next) ≡ false

unfoldable pub PlainFound : List ℕ → ℕ → ℕ → Option NumberRead → Type 0
PlainFound s at most (Some read) = PlainStands s at most read.value read.next
PlainFound s at most None = (n next : ℕ) → PlainStands s at most n next → ⊥

module _ (s : List ℕ) (at most : ℕ) where
  pub plain_told_bad : {r : Option NumberRead} → PlainFound s at most r → r ≡ None → PlainFound s at most None
  plain_told_bad v e = rw e at v

  pub plain_told : {r : Option NumberRead} {read : NumberRead} → PlainFound s at most r → r ≡ Some read
      → PlainStands s at most read.value read.next
  unfolding PlainFound
  plain_told v e = rw e at v

  pub plain_read : {n next : ℕ} → PlainStands s at most n next → number_at s at most ≡ read_as n next
  plain_read {n} v = number_read s at most n v.stands v.short v.ends

  pub plain_found : (n next : ℕ) → number_at s at most ≡ read_as n next → digit_test (byte_at s next) ≡ false
      → PlainFound s at most (read_as n next)
  unfolding PlainFound
  plain_found n next e d =
      let v : NumberStands s at most n next = (number_is s at most).0 e in
      record { stands = v.stands; short = v.short; ends = d }

  -- a digit too many
  pub plain_long : (n next : ℕ) → number_at s at most ≡ read_as n next → digit_test (byte_at s next) ≡ true
      → PlainFound s at most None
  unfolding PlainFound
  plain_long n next e d m after v =
      let same : next ≡ after = (read_same (sym e ∙ plain_read v)).1 in
      true≢false (sym d ∙ ap (λ (k : ℕ). digit_test (byte_at s k)) same ∙ v.ends)

  pub plain_bad : number_at s at most ≡ None → PlainFound s at most None
  unfolding PlainFound
  plain_bad e m after v = let z : ◌≡◌ {A = ℕ} 0 1 = cc (plain_read v) in omega arith

-- ---- with a minus or without

-- a minus stands here, and it is taken
pub record MinusThere (s : List ℕ) (at : ℕ) (f : Form) : Type 0 where
  pub sign : f.signed ≡ true
  pub inside : at < length s
  pub here : Stands s at (minus_sign ∷ []) (at + 1)

pub front_byte : {s l : List ℕ} {b at next : ℕ} → Stands s at (b ∷ l) next → byte_at s at ≡ b
front_byte {at} w = rw add-zero at (stands_at 0 0 w (omega arith))

module _ (s : List ℕ) (at : ℕ) (f : Form) where
  plain_of : {n next : ℕ} → NumeralStands s at f (pos n) next → PlainStands s at f.most n next
  unfolding numeral
  plain_of {n} {next} v = record { stands = v.stands; short = v.allowed.short; ends = ends_byte s next v.ends }

  minus_of : {n next : ℕ} → NumeralStands s at f (negsuc n) next
      → PlainStands s (at + 1) f.most (suc n) next × (byte_at s at ≡ minus_sign) × (f.signed ≡ true)
  unfolding numeral
  minus_of {n} {next} v =
      let (first, rest) = stands_apart (minus_sign ∷ []) (digits (suc n)) v.stands in (
        record { stands = rest; short = v.allowed.short; ends = ends_byte s next v.ends },
        front_byte first,
        v.allowed.sign refl,
      )

  -- no minus is taken: digits are a number, and nothing else is
  pub plain_got : {n next : ℕ} → PlainStands s at f.most n next → Found (NumeralStands s at f) (field_as false n next)
  unfolding Found numeral
  plain_got {n} {next} v =
      record {
        z = pos n;
        signed = refl;
        sized = refl;
        there = record {
          stands = v.stands;
          allowed = record { short = v.short; sign = λ e. absurd (true≢false (sym e)) };
          ends = ends_at s next v.ends;
        };
      }

  pub plain_none : {b : ℕ} → b ≡ byte_at s at → f.signed && eqb b minus_sign ≡ false → PlainFound s at f.most None
      → Found (NumeralStands s at f) None
  unfolding Found PlainFound
  plain_none e t none (pos n) next v = none n next (plain_of v)
  plain_none e t none (negsuc n) next v =
      let (rest, here, sign) = minus_of v in
      true≢false (cc (eq-eqb (byte_at s at) minus_sign here))

  -- behind a minus: digits are a number, unless they are 0
  pub minus_there : {b : ℕ} → b ≡ byte_at s at → f.signed && eqb b minus_sign ≡ true → MinusThere s at f
  minus_there {b} e t =
      let (sign, test) = both f.signed (eqb b minus_sign) t in
      let byte : byte_at s at ≡ minus_sign = sym e ∙ eqb-true b minus_sign test in
      let inside : at < length s = byte_inside s at (λ z. omega arith) in
      record { sign = sign; inside = inside; here = rw byte at (stands_one s at 0 inside) }

  module _ (minus : MinusThere s at f) where
    pub minus_got : {n next : ℕ} → 0 < n → PlainStands s (at + 1) f.most n next
        → Found (NumeralStands s at f) (field_as true n next)
    unfolding Found numeral
    minus_got {n = zero} some v = absurd (omega arith)
    minus_got {n = suc n} {next} some v =
        record {
          z = negsuc n;
          signed = refl;
          sized = refl;
          there = record {
            stands = stands_then minus.here v.stands;
            allowed = record { short = v.short; sign = λ e. minus.sign };
            ends = ends_at s next v.ends;
          };
        }

    minus_none : ((n next : ℕ) → PlainStands s (at + 1) f.most (suc n) next → ⊥) → Found (NumeralStands s at f) None
    unfolding Found numeral
    minus_none none (pos n) next v =
        digits_plain n (drop next s) (drop (at + 1) s) (sym v.stands.here ∙ minus.here.here)
    minus_none none (negsuc n) next v = none n next (minus_of v).0

    pub minus_zero : {next : ℕ} → PlainStands s (at + 1) f.most 0 next → Found (NumeralStands s at f) None
    minus_zero {next} v = minus_none (λ n after w. let e : ◌≡◌ {A = ℕ} 0 (suc n) = (read_same (sym (plain_read s (at + 1) f.most v) ∙ plain_read s (at + 1) f.most w)).0 in omega arith)

    pub minus_bad : PlainFound s (at + 1) f.most None → Found (NumeralStands s at f) None
    unfolding PlainFound
    minus_bad none = minus_none (λ n. none (suc n))

-- ---- a field

module _ (s : List ℕ) (at : ℕ) (f : Form) where
  pub field_found : at < length s → byte_at s at ≡ f.separator → (r : Option Field) → Found (NumeralStands s (at + 1) f) r
      → Found (FieldStands s at f) r
  unfolding Found
  field_found h e (Some field) g =
      record {
        z = g.z;
        signed = g.signed;
        sized = g.sized;
        there = record { separated = rw e at (stands_one s at 0 h); number = g.there };
      }
  field_found h e None none = λ z next v. none z next v.number

  pub field_none : ((at < length s) → byte_at s at ≡ f.separator → ⊥) → Found (FieldStands s at f) None
  unfolding Found
  field_none no-separator z next v =
      no-separator
      (omega (arith, simp (length-drop) at (ap length v.separated.here)))
      (front_byte v.separated)
