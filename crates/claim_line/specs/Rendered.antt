-- Rendering is one-to-one: a text begins with the line of one claim at most.
use Rattle.std.specs.Prelude.{false, ◌≡◌, refl, ℕ, ◌<◌, ℤ, pos, nat_abs, length}
use mathlib.Core.List.{List, [], ◌∷◌, ◌++◌, map, append_assoc, head-eq_of_cons-eq, tail-eq_of_cons-eq}
use Rattle.std.proofs.Common.{sym, ap, ◌∙◌, arith, length-append}
use Rattle.std.proofs.lemmas.List.{length-map}
use Rattle.text_fields.specs.Tabbed.{tab_parts, line_ends}
use Rattle.text_fields.specs.Rows.{row_of, row_cancel}
use Rattle.text_fields.specs.declared.Form.{Form}
use Rattle.meaning.specs.Limits.{weight_digits}
use Rattle.meaning.specs.Scene.{Scene}
use Rattle.meaning.specs.Text.{tab, line_feed}
use Rattle.meaning.specs.Report.{kind_word}
use Rattle.meaning.specs.Claims.{Claim, places_in, weights_in, claim_line, ClaimFormed, claim_lines}
use Rattle.meaning.specs.declared.Kind.{Kind}
use Rattle.meaning.specs.declared.Kind.TheVariants.{PointTriangle, EdgeEdge}
use Rattle.text_laws.specs.Unique.{Readable}

abbrev pub weight_form : Form
weight_form = record { separator = tab; signed = false; most = weight_digits }

abbrev pub numbers_in : Claim → List ℤ
numbers_in c = places_in c ++ weights_in c

pub nine_numbers : (c : Claim) → ClaimFormed c → length (numbers_in c) ≡ 9
nine_numbers c f = omega (arith, f.six, length-map c.weights pos)

-- a line: the word, the row of the numbers, LF
pub line_is : (c : Claim) (x : List ℕ) → claim_line c ++ x ≡ kind_word c.kind ++ (row_of weight_form (numbers_in c) ++ (line_feed ∷ x))
unfolding claim_line
line_is c x =
    append_assoc (kind_word c.kind ++ row_of weight_form (numbers_in c)) (line_feed ∷ []) x
    ∙ append_assoc (kind_word c.kind) (row_of weight_form (numbers_in c)) (line_feed ∷ x)

word_cancel : (k m : Kind) (x y : List ℕ) → kind_word k ++ x ≡ kind_word m ++ y → (k ≡ m) × (x ≡ y)
unfolding kind_word
word_cancel PointTriangle PointTriangle x y e = (refl, tail-eq_of_cons-eq (tail-eq_of_cons-eq e))
word_cancel PointTriangle EdgeEdge x y e = absurd (omega (arith, head-eq_of_cons-eq e))
word_cancel EdgeEdge PointTriangle x y e = absurd (omega (arith, head-eq_of_cons-eq e))
word_cancel EdgeEdge EdgeEdge x y e = (refl, tail-eq_of_cons-eq (tail-eq_of_cons-eq e))

plain_same : (l k : List ℕ) → map pos l ≡ map pos k → l ≡ k
plain_same [] [] e = refl
plain_same [] (b ∷ k) e = absurd (omega (arith, ap length e))
plain_same (a ∷ l) [] e = absurd (omega (arith, ap length e))
plain_same (a ∷ l) (b ∷ k) e =
    let first : a ≡ b = ap nat_abs (head-eq_of_cons-eq e) in
    let rest : l ≡ k = plain_same l k (tail-eq_of_cons-eq e) in
    λ i. first i ∷ rest i

pub line_cancel : (c d : Claim) (x y : List ℕ) → ClaimFormed c → ClaimFormed d → claim_line c ++ x ≡ claim_line d ++ y → (c ≡ d) × (x ≡ y)
line_cancel c d x y f g e =
    let (kind, behind) =
    word_cancel c.kind d.kind (row_of weight_form (numbers_in c) ++ (line_feed ∷ x)) (row_of weight_form (numbers_in d) ++ (line_feed ∷ y))
    (sym (line_is c x) ∙ e ∙ line_is d y) in
    let (same, rest) =
    row_cancel weight_form tab_parts (numbers_in c) (numbers_in d) (line_feed ∷ x) (line_feed ∷ y) (nine_numbers c f ∙ sym (nine_numbers d g))
    (line_ends x) (line_ends y) behind in
    let first : c.first ≡ d.first = ap nat_abs (head-eq_of_cons-eq same) in
    let second : c.second ≡ d.second = ap nat_abs (head-eq_of_cons-eq (tail-eq_of_cons-eq same)) in
    let piece : c.piece ≡ d.piece = ap nat_abs (head-eq_of_cons-eq (tail-eq_of_cons-eq (tail-eq_of_cons-eq same))) in
    let weights : c.weights ≡ d.weights =
    plain_same c.weights d.weights (tail-eq_of_cons-eq (tail-eq_of_cons-eq (tail-eq_of_cons-eq same))) in (
      λ i. record { kind = kind i; first = first i; second = second i; piece = piece i; weights = weights i },
      tail-eq_of_cons-eq rest,
    )

-- a text of such lines means one thing
pub claims_readable : (s : Scene) → Readable (claim_lines s)
unfolding claim_line
claims_readable s = record { cancel = λ c d x y f g e. line_cancel c d x y f g e; some = λ c. some c }
  where
    some : (c : Claim) → 0 < length (claim_line c)
    some c = omega (arith, length-append (kind_word c.kind ++ row_of weight_form (numbers_in c)) (line_feed ∷ []))
