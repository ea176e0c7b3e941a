-- What the reader of a line promises: the claim that stands there, with its numbers in front of two buffers, or that none does.
use Rattle.std.specs.Prelude.{Option, Some, None, Bool, true, false, ◌||◌, ◌&&◌, ◌≡◌, leb, eqb, ℤ, pos, negsuc, nat_abs, get_or, drop}
use Rattle.std.proofs.Math.Bool.{true≢false}
use mathlib.Core.List.{List, [], ◌∷◌, ◌++◌, map}
use Rattle.std.proofs.Math.Path.{refl, sym, ap}
use Rattle.std.proofs.Common.{◌∙◌, add_assoc, arith, leb-false, eqb-true, eq-eqb}
use Prim.Native.Nat.{ℕ, zero, suc, ◌+◌, ◌^◌, ◌≤◌, ◌<◌}
use Rattle.std.proofs.Math.ListN.{length}
use Rattle.std.proofs.lemmas.List.{length-map}
use Rattle.std.proofs.lemmas.Bool.{lt-leb}
use Rattle.sequences.specs.Pick.{both}
use Rattle.sequences.specs.Stands.{Stands, stands_one, stands_then, stands_apart}
use Rattle.decimals.specs.Byte.{byte_at, byte_inside}
use Rattle.decimals.specs.Digits.{digits}
use Rattle.decimals.specs.Value.{digits_length, digits_below}
use Rattle.answers.specs.Below.{or_left, or_rest}
use Rattle.text_fields.specs.Field.{Allowed, front_byte}
use Rattle.text_fields.specs.Rows.{EachAllowed, row_of, row_cancel}
use Rattle.text_fields.specs.Ended.{RowEnded, LineStands, InFront, row_ended, row_unended}
use Rattle.text_fields.specs.Tabbed.{tab_parts, line_ends, SizedAs, sized_at, first_of}
use Rattle.meaning.specs.Limits.{digit_limit, weight_digits}
use Rattle.meaning.specs.Text.{Short, line_feed}
use Rattle.meaning.specs.Report.{kind_word}
use Rattle.meaning.specs.Claims.{Claim, claim_line, ClaimFormed}
use Rattle.meaning.specs.declared.Kind.{Kind}
use Rattle.meaning.specs.declared.Kind.TheVariants.{PointTriangle, EdgeEdge}
use Rattle.claim_line.specs.Rendered.{weight_form, numbers_in, nine_numbers}
use Rattle.claim_line.specs.declared.Line.{Line}

-- one of the first three numbers has more than nine digits
abbrev pub wide_in : List ℕ → Bool
wide_in l = leb (10 ^ digit_limit) (get_or l 0 0) || leb (10 ^ digit_limit) (get_or l 1 0) || leb (10 ^ digit_limit) (get_or l 2 0)

-- none has
pub record Near (zs : List ℤ) : Type 0 where
  pub at : (i : ℕ) → i < 3 → nat_abs (get_or zs i (pos 0)) < 10 ^ digit_limit

-- nine numbers of a line, the first three of nine digits at most
pub record Nine (text : List ℕ) (at : ℕ) (zs : List ℤ) (next : ℕ) : Type 0 where
  pub many : length zs ≡ 9
  pub near : Near zs
  pub line : LineStands text at weight_form zs next

-- they were read, and are in front of two buffers; or there are none
pub record NumbersGot (text : List ℕ) (at : ℕ) (sizes : List ℕ) (minus : List Bool) (next : ℕ) : Type 0 where
  pub zs : List ℤ
  pub nine : Nine text at zs next
  pub front : InFront zs sizes minus

abbrev pub NoNumbers : List ℕ → ℕ → Type 0
NoNumbers text at = (zs : List ℤ) (next : ℕ) → Nine text at zs next → ⊥

unfoldable pub NumbersRead : List ℕ → ℕ → List ℕ → List Bool → Option ℕ → Type 0
NumbersRead text at sizes minus (Some next) = NumbersGot text at sizes minus next
NumbersRead text at sizes minus None = NoNumbers text at

-- numbers that stand in one place are the same
numbers_one : {text : List ℕ} {at n m : ℕ} {zs ws : List ℤ} → LineStands text at weight_form zs n → LineStands text at weight_form ws m
    → length zs ≡ length ws → zs ≡ ws
numbers_one {text} {at} {n} {m} {zs} {ws} v w same =
    let here : drop at text ≡ row_of weight_form zs ++ (line_feed ∷ drop n text) =
    v.row.stands.here ∙ ap (λ (l : List ℕ). row_of weight_form zs ++ l) v.ended.here in
    let there : drop at text ≡ row_of weight_form ws ++ (line_feed ∷ drop m text) =
    w.row.stands.here ∙ ap (λ (l : List ℕ). row_of weight_form ws ++ l) w.ended.here in
    (row_cancel weight_form tab_parts zs ws (line_feed ∷ drop n text) (line_feed ∷ drop m text) same (line_ends (drop n text)) (line_ends (drop m text))
    (sym here ∙ there)).0

near_of : (zs : List ℤ) (l : List ℕ) → SizedAs zs l → length zs ≡ 9 → wide_in l ≡ false → Near zs
near_of zs l e n w = record { at = at }
  where
    at : (i : ℕ) → i < 3 → nat_abs (get_or zs i (pos 0)) < 10 ^ digit_limit
    at zero h = rw (sized_at zs l 0 e (omega arith)) at (leb-false (10 ^ digit_limit) (get_or l 0 0) (search (or_left, or_rest)))
    at (suc zero) h = rw (sized_at zs l 1 e (omega arith)) at (leb-false (10 ^ digit_limit) (get_or l 1 0) (search (or_left, or_rest)))
    at (suc (suc zero)) h = rw (sized_at zs l 2 e (omega arith)) at (leb-false (10 ^ digit_limit) (get_or l 2 0) (search (or_left, or_rest)))
    at (suc (suc (suc i))) h = absurd (omega arith)

near_not_wide : (zs : List ℤ) (l : List ℕ) → SizedAs zs l → length zs ≡ 9 → Near zs → wide_in l ≡ false
near_not_wide zs l e n h = rw (
  sized_at zs l 0 e (omega arith),
  sized_at zs l 1 e (omega arith),
  sized_at zs l 2 e (omega arith),
  lt-leb (10 ^ digit_limit) (nat_abs (get_or zs 0 (pos 0))) (h.at 0 (omega arith)),
  lt-leb (10 ^ digit_limit) (nat_abs (get_or zs 1 (pos 0))) (h.at 1 (omega arith)),
  lt-leb (10 ^ digit_limit) (nat_abs (get_or zs 2 (pos 0))) (h.at 2 (omega arith)),
) refl

module _ {text : List ℕ} {at : ℕ} {sizes sizes' : List ℕ} {minus minus' : List Bool} where
  got : {r : Option ℕ} {next : ℕ} → RowEnded text at weight_form 9 sizes sizes' minus minus' r → r ≡ Some next → wide_in sizes' ≡ false
      → NumbersGot text at sizes' minus' next
  got row e w =
      let (counted, line, front) = row_ended row e in
      let zs : List ℤ = row.read.zs in
      record {
        zs = zs;
        nine = record { many = counted; near = near_of zs sizes' front.sized counted w; line = line };
        front = front;
      }

  none : {r : Option ℕ} → RowEnded text at weight_form 9 sizes sizes' minus minus' r → r ≡ None → NoNumbers text at
  none row e zs next n = row_unended tab_parts row e zs next n.many n.line

  pub numbers_wide : {r : Option ℕ} → RowEnded text at weight_form 9 sizes sizes' minus minus' r → wide_in sizes' ≡ true
      → NumbersRead text at sizes' minus' None
  unfolding NumbersRead
  numbers_wide {r} row w = by r refl
    where
      by : (x : Option ℕ) → r ≡ x → NoNumbers text at
      by None e = none row e
      by (Some next) e = λ zs m n.
          let (counted, line, front) = row_ended row e in
          let same : row.read.zs ≡ zs = numbers_one line n.line (counted ∙ sym n.many) in
          let near : Near row.read.zs = rw same n.near in
          true≢false (sym w ∙ near_not_wide row.read.zs sizes' front.sized counted near)

  pub numbers_read : {r : Option ℕ} → RowEnded text at weight_form 9 sizes sizes' minus minus' r → wide_in sizes' ≡ false
      → NumbersRead text at sizes' minus' r
  unfolding NumbersRead
  numbers_read {r} row w = by r refl
    where
      by : (x : Option ℕ) → r ≡ x → NumbersRead text at sizes' minus' x
      by None e = none row e
      by (Some next) e = got row e w

-- ---- numbers of the form make a claim, and a claim's are of the form

unsigned : (z : ℤ) → Allowed weight_form z → pos (nat_abs z) ≡ z
unsigned (pos n) a = refl
unsigned (negsuc n) a = absurd (true≢false (sym (a.sign refl)))

all_unsigned : (zs : List ℤ) → EachAllowed weight_form zs → map pos (map nat_abs zs) ≡ zs
unfolding EachAllowed
all_unsigned [] a = refl
all_unsigned (z ∷ zs) a =
    let first : pos (nat_abs z) ≡ z = unsigned z a.0 in
    let rest : map pos (map nat_abs zs) ≡ zs = all_unsigned zs a.1 in
    λ i. first i ∷ rest i

all_short : (zs : List ℤ) → EachAllowed weight_form zs → Short weight_digits zs
unfolding Short EachAllowed
all_short [] a = tt
all_short (z ∷ zs) a = (a.0.short, all_short zs a.1)

record Made (kind : Kind) (zs : List ℤ) : Type 0 where
  claim : Claim
  kinded : claim.kind ≡ kind
  formed : ClaimFormed claim
  numbers : numbers_in claim ≡ zs

made : (kind : Kind) (zs : List ℤ) → length zs ≡ 9 → EachAllowed weight_form zs → Near zs → Made kind zs
unfolding EachAllowed Short
made kind zs n a near =
    let (z0, w0, e0, n0) = first_of zs 8 n in
    let (z1, w1, e1, n1) = first_of w0 7 n0 in
    let (z2, w2, e2, n2) = first_of w1 6 n1 in
    let all : zs ≡ z0 ∷ z1 ∷ z2 ∷ w2 = cc in
    let b : EachAllowed weight_form (z0 ∷ z1 ∷ z2 ∷ w2) = rw all at a in
    let h : Near (z0 ∷ z1 ∷ z2 ∷ w2) = rw all at near in
    let same : map pos (map nat_abs w2) ≡ w2 = all_unsigned w2 b.1.1.1 in
    record {
      claim = record { kind = kind; first = nat_abs z0; second = nat_abs z1; piece = nat_abs z2; weights = map nat_abs w2 };
      kinded = refl;
      formed = record {
        six = length-map w2 nat_abs ∙ n2;
        places = (
          digits_length digit_limit (nat_abs z0) (omega arith) (h.at 0 (omega arith)),
          (digits_length digit_limit (nat_abs z1) (omega arith) (h.at 1 (omega arith)), (digits_length digit_limit (nat_abs z2) (omega arith) (h.at 2 (omega arith)), tt)),
        );
        weights = rw same (all_short w2 b.1.1.1);
      };
      numbers = cc (unsigned z0 b.0, unsigned z1 b.1.0, unsigned z2 b.1.1.0);
    }

plain : (n : ℕ) → length (digits n) ≤ weight_digits → Allowed weight_form (pos n)
plain n h = record { short = h; sign = λ e. absurd (true≢false (sym e)) }

plain_all : (ws : List ℕ) → Short weight_digits (map pos ws) → EachAllowed weight_form (map pos ws)
unfolding Short EachAllowed
plain_all [] h = tt
plain_all (w ∷ ws) h = (plain w h.0, plain_all ws h.1)

claim_allowed : (c : Claim) → ClaimFormed c → EachAllowed weight_form (numbers_in c)
unfolding Short EachAllowed
claim_allowed c f =
    let p = f.places in (
      plain c.first (omega (arith, p.0)),
      (plain c.second (omega (arith, p.1.0)), (plain c.piece (omega (arith, p.1.1.0)), plain_all c.weights f.weights)),
    )

claim_near : (c : Claim) → ClaimFormed c → Near (numbers_in c)
unfolding Short
claim_near c f = record { at = at }
  where
    at : (i : ℕ) → i < 3 → nat_abs (get_or (numbers_in c) i (pos 0)) < 10 ^ digit_limit
    at zero h = digits_below c.first digit_limit f.places.0
    at (suc zero) h = digits_below c.second digit_limit f.places.1.0
    at (suc (suc zero)) h = digits_below c.piece digit_limit f.places.1.1.0
    at (suc (suc (suc i))) h = absurd (omega arith)

-- ---- the promise

pub record ClaimGot (text : List ℕ) (at : ℕ) (sizes : List ℕ) (minus : List Bool) (kind : Kind) (next : ℕ) : Type 0 where
  pub claim : Claim
  pub kinded : claim.kind ≡ kind
  pub formed : ClaimFormed claim
  pub stands : Stands text at (claim_line claim) next
  pub front : InFront (numbers_in claim) sizes minus

-- no claim's line stands here
abbrev pub NoLine : List ℕ → ℕ → Type 0
NoLine text at = (c : Claim) (next : ℕ) → ClaimFormed c → Stands text at (claim_line c) next → ⊥

unfoldable pub LineRead : List ℕ → ℕ → List ℕ → List Bool → Option Line → Type 0
LineRead text at sizes minus (Some line) = ClaimGot text at sizes minus line.kind line.next
LineRead text at sizes minus None = NoLine text at

unfoldable pub line_ended : Kind → Option ℕ → Option Line
line_ended kind (Some next) = Some (record { kind = kind; next = next })
line_ended kind None = None

-- ---- the line of a claim is its word, its row and LF

word_long : (kind : Kind) → length (kind_word kind) ≡ 2
unfolding kind_word
word_long PointTriangle = refl
word_long EdgeEdge = refl

module _ (text : List ℕ) (at : ℕ) where
  line_put : (c : Claim) {next : ℕ} → Stands text at (kind_word c.kind) (at + 2) → LineStands text (at + 2) weight_form (numbers_in c) next
      → Stands text at (claim_line c) next
  unfolding claim_line
  line_put c word w = stands_then (stands_then word w.row.stands) w.ended

  line_taken : (c : Claim) {next : ℕ} → ClaimFormed c → Stands text at (claim_line c) next
      → Stands text at (kind_word c.kind) (at + 2) × Nine text (at + 2) (numbers_in c) next
  unfolding claim_line
  line_taken c {next} formed w =
      let row : List ℕ = row_of weight_form (numbers_in c) in
      let (front, ended) = stands_apart (kind_word c.kind ++ row) (line_feed ∷ []) w in
      let (word, numbers) = stands_apart (kind_word c.kind) row front in
      let place : at + length (kind_word c.kind) ≡ at + 2 = ap (λ (n : ℕ). at + n) (word_long c.kind) in (
        rw place at word,
        record {
          many = nine_numbers c formed;
          near = claim_near c formed;
          line = record {
            last = at + length (kind_word c.kind ++ row);
            row = record {
              stands = rw place at numbers;
              allowed = claim_allowed c formed;
              ends = λ h. rw ended.here (line_ends (drop next text));
            };
            ended = ended;
          };
        },
      )

  -- the word of a kind stands here: what is read behind it decides
  pub line_got : (kind : Kind) (sizes : List ℕ) (minus : List Bool) (e : Option ℕ) {l : Option Line} → Stands text at (kind_word kind) (at + 2)
      → NumbersRead text (at + 2) sizes minus e → l ≡ line_ended kind e → LineRead text at sizes minus l
  unfolding LineRead NumbersRead line_ended
  line_got kind sizes minus e {l} word read is = rw is (by e read)
    where
      by : (x : Option ℕ) → NumbersRead text (at + 2) sizes minus x → LineRead text at sizes minus (line_ended kind x)
      by (Some next) g =
          let m : Made kind g.zs = made kind g.zs g.nine.many g.nine.line.row.allowed g.nine.near in
          record {
            claim = m.claim;
            kinded = m.kinded;
            formed = m.formed;
            stands = line_put m.claim (rw m.kinded word) (rw m.numbers g.nine.line);
            front = rw m.numbers g.front;
          }
      by None n = λ c next formed w. n (numbers_in c) next (line_taken c formed w).1

-- ---- the word, byte by byte

two_bytes : (text : List ℕ) (at a b : ℕ) → 0 < a → 0 < b → byte_at text at ≡ a → byte_at text (at + 1) ≡ b → Stands text at (a ∷ b ∷ []) (at + 2)
two_bytes text at a b h k p q =
    let inside : at < length text = byte_inside text at (λ z. omega arith) in
    let behind : at + 1 < length text = byte_inside text (at + 1) (λ z. omega arith) in
    let first : Stands text at (a ∷ []) (at + 1) = rw p at (stands_one text at 0 inside) in
    let second : Stands text (at + 1) (b ∷ []) (at + 1 + 1) = rw q at (stands_one text (at + 1) 0 behind) in
    rw (add_assoc at 1 1) at (stands_then first second)

module _ (text : List ℕ) (at : ℕ) {x y : ℕ} (p : x ≡ byte_at text at) (q : y ≡ byte_at text (at + 1)) where
  word_of : (a b : ℕ) → 0 < a → 0 < b → eqb x a && eqb y b ≡ true → Stands text at (a ∷ b ∷ []) (at + 2)
  word_of a b h k t =
      let (first, second) = both (eqb x a) (eqb y b) t in
      two_bytes text at a b h k (sym p ∙ eqb-true x a first) (sym q ∙ eqb-true y b second)

  pub pt_word : eqb x 112 && eqb y 116 ≡ true → Stands text at (kind_word PointTriangle) (at + 2)
  unfolding kind_word
  pt_word t = word_of 112 116 (omega arith) (omega arith) t

  pub ee_word : eqb x 101 && eqb y 101 ≡ true → Stands text at (kind_word EdgeEdge) (at + 2)
  unfolding kind_word
  ee_word t = word_of 101 101 (omega arith) (omega arith) t

  no_word : (a b : ℕ) → eqb x a && eqb y b ≡ false → byte_at text at ≡ a → byte_at text (at + 1) ≡ b → ⊥
  no_word a b t e f = true≢false (sym (rw (eq-eqb x a (p ∙ e), eq-eqb y b (q ∙ f)) refl) ∙ t)

  -- neither word stands here
  pub line_other : eqb x 112 && eqb y 116 ≡ false → eqb x 101 && eqb y 101 ≡ false → NoLine text at
  unfolding kind_word
  line_other n m c next formed w = by c.kind (line_taken text at c formed w).0
    where
      bytes : (a b : ℕ) → Stands text at (a ∷ b ∷ []) (at + 2) → (byte_at text at ≡ a) × (byte_at text (at + 1) ≡ b)
      bytes a b v = let (first, rest) = stands_apart (a ∷ []) (b ∷ []) v in (front_byte first, front_byte rest)

      by : (kind : Kind) → Stands text at (kind_word kind) (at + 2) → ⊥
      by PointTriangle v = let (e, f) = bytes 112 116 v in no_word 112 116 n e f
      by EdgeEdge v = let (e, f) = bytes 101 101 v in no_word 101 101 m e f
