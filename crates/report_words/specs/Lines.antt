-- A line is its parts, one behind the other, and no line is long.
use Rattle.std.specs.Prelude.{ℕ, ◌+◌, ◌≤◌, ◌<◌, ◌^◌, List, [], ◌∷◌, ◌++◌, ◌≡◌, refl, length}
use Rattle.std.proofs.Common.{append_assoc, append-nil, sym, ap, ◌∙◌, arith, length-append}
use Rattle.decimals.specs.Digits.{digits}
use Rattle.decimals.specs.Value.{digits_length}
use Rattle.sequences.specs.Wrote.{Wrote}
use Rattle.meaning.specs.Text.{tab, line_feed, further}
use Rattle.meaning.specs.List.{Pair}
use Rattle.meaning.specs.Report.{kind_word, verdict_word, report_line, pair_line}
use Rattle.meaning.specs.ObjPrinted.{file_word}
use Rattle.meaning.specs.declared.WhichFile.{WhichFile}
use Rattle.meaning.specs.declared.WhichFile.TheVariants.{Start, End}
use Rattle.meaning.specs.declared.Kind.{Kind}
use Rattle.meaning.specs.declared.Kind.TheVariants.{PointTriangle, EdgeEdge}
use Rattle.meaning.specs.declared.Settled.{Settled}
use Rattle.meaning.specs.declared.Settled.TheVariants.{Hit, Miss, Touch, Apart}

pub wrote_as : {o l k o' : List ℕ} {n m : ℕ} → l ≡ k → Wrote o n l o' m → Wrote o n k o' m
wrote_as e w = rw e at w

-- a word, then fields behind it, each with its tab
behind : List ℕ → List (List ℕ) → List ℕ
behind w [] = w
behind w (f ∷ fs) = behind (w ++ (tab ∷ f)) fs

-- with the LF they are a line
line_of_lem : (w : List ℕ) (fs : List (List ℕ)) → behind w fs ++ (line_feed ∷ []) ≡ report_line w fs
unfolding behind further
line_of_lem w [] = ap (λ (l : List ℕ). l ++ (line_feed ∷ [])) (sym (append-nil w))
line_of_lem w (f ∷ fs) =
    line_of_lem (w ++ (tab ∷ f)) fs
    ∙ ap (λ (l : List ℕ). l ++ (line_feed ∷ [])) (append_assoc w (tab ∷ f) (further tab fs))

pub two_fields : (w a b : List ℕ) → ((w ++ (tab ∷ a)) ++ (tab ∷ b)) ++ (line_feed ∷ []) ≡ report_line w (a ∷ b ∷ [])
unfolding behind
two_fields w a b = line_of_lem w (a ∷ b ∷ [])

-- the last field written apart from its tab
pub three_fields : (w a b v : List ℕ) → ((((w ++ (tab ∷ a)) ++ (tab ∷ b)) ++ (tab ∷ [])) ++ v) ++ (line_feed ∷ []) ≡ report_line w (a ∷ b ∷ v ∷ [])
unfolding further
three_fields w a b v = simp (append_assoc, append-nil)

pub five_fields : (w a b c d e : List ℕ) → (((((w ++ (tab ∷ a)) ++ (tab ∷ b)) ++ (tab ∷ c)) ++ (tab ∷ d)) ++ (tab ∷ e)) ++ (line_feed ∷ [])
    ≡ report_line w (a ∷ b ∷ c ∷ d ∷ e ∷ [])
unfolding behind
five_fields w a b c d e = line_of_lem w (a ∷ b ∷ c ∷ d ∷ e ∷ [])

-- how long words are
pub kind_short : (k : Kind) → length (kind_word k) ≡ 2
unfolding kind_word
kind_short PointTriangle = refl
kind_short EdgeEdge = refl

pub verdict_short : (v : Settled) → length (verdict_word v) ≤ 5
unfolding verdict_word
verdict_short Hit = omega arith
verdict_short Miss = omega arith
verdict_short Touch = omega arith
verdict_short Apart = omega arith

pub file_short : (f : WhichFile) → length (file_word f) ≤ 5
unfolding file_word
file_short Start = omega arith
file_short End = omega arith

-- a pair's line, where the places fit 16 bits
pub pair_line_short : (p : Pair) (v : Settled) → p.first < 2 ^ 16 → p.second < 2 ^ 16 → length (pair_line p v) ≤ 21
unfolding further
pair_line_short p v h k =
    simp length-append
    (omega (arith, kind_short p.kind, verdict_short v, digits_length 5 p.first (omega arith) (omega arith), digits_length 5 p.second (omega arith) (omega arith)))
