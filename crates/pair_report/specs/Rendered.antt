-- The report of a list that stands in a buffer, with its verdicts in another: line by line, and as the whole.
use Rattle.std.specs.Prelude.{ℕ, ◌*◌, ◌≤◌, ◌<◌, List, [], ◌∷◌, ◌++◌, ◌≡◌, length, get_or, drop}
use Rattle.std.proofs.Common.{sym, ap, ◌∙◌, mul-one, arith, drop_of_length-le}
use Rattle.std.proofs.Math.Nat.{sub-zero}
use Rattle.sequences.specs.Range.{towards}
use Rattle.sequences.specs.Gather.{gather, gather_none, gather_first, gather_short}
use Rattle.sequences.specs.Parts.{drop_next}
use Rattle.meaning.specs.List.{Pair}
use Rattle.meaning.specs.Report.{pair_line, pair_lines}
use Rattle.meaning.specs.declared.Settled.{Settled}
use Rattle.meaning.specs.declared.Settled.TheVariants.{Hit}
use Rattle.list_entries.specs.Entries.{pair_at, places_small}
use Rattle.list_words.specs.Listed.{word_of_byte, no_pair}
use Rattle.report_words.specs.Lines.{pair_line_short}

abbrev pub verdict_at : List ℕ → ℕ → Settled
verdict_at b k = word_of_byte (get_or b k 0)

-- the line of the k-th entry
abbrev pub line_at : List ℕ → List ℕ → ℕ → List ℕ
line_at l b k = pair_line (pair_at l k) (verdict_at b k)

-- the verdicts from place i up to n
abbrev pub verdicts_in : List ℕ → ℕ → ℕ → List Settled
verdicts_in b i n = gather (λ k. verdict_at b k ∷ []) i n

-- a list read place by place is the list
pub gather_is : {A : Type 0} (xs : List A) (f : ℕ → A) (d : A) → ((k : ℕ) → k < length xs → f k ≡ get_or xs k d)
    → (i : ℕ) → gather (λ k. f k ∷ []) i (length xs) ≡ drop i xs
gather_is {A} xs f d same i =
    towards (length xs) (λ i. gather (λ k. f k ∷ []) i (length xs) ≡ drop i xs)
    (λ i past. gather_none (λ k. f k ∷ []) i (length xs) past ∙ sym (drop_of_length-le xs past))
    (λ i lt next.
    gather_first (λ k. f k ∷ []) i (length xs) lt
    ∙ (λ t. same i lt t ∷ next t)
    ∙ sym (drop_next xs i d lt))
    i

-- lines made place by place are the lines of the pairs and their verdicts
pub lines_are : (ps : List Pair) (vs : List Settled) (f : ℕ → List ℕ) → length vs ≡ length ps
    → ((k : ℕ) → k < length ps → f k ≡ pair_line (get_or ps k no_pair) (get_or vs k Hit))
    → (i : ℕ) → gather f i (length ps) ≡ pair_lines (drop i ps) (drop i vs)
unfolding pair_lines
lines_are ps vs f long same i =
    towards (length ps) (λ i. gather f i (length ps) ≡ pair_lines (drop i ps) (drop i vs))
    (λ i past.
    gather_none f i (length ps) past
    ∙ sym (ap (λ (l : List Pair). pair_lines l (drop i vs)) (drop_of_length-le ps past)))
    (λ i lt next.
    gather_first f i (length ps) lt
    ∙ (λ t. same i lt t ++ next t)
    ∙ (λ t. pair_lines (sym (drop_next ps i no_pair lt) t) (sym (drop_next vs i Hit (rw long lt)) t)))
    i

-- ---- no line is long, and the verdicts are no more than there are

pub line_short : (l b : List ℕ) (k : ℕ) → length (line_at l b k) ≤ 21
line_short l b k =
    let (first, second) = places_small (get_or l k 0) in
    pair_line_short (pair_at l k) (verdict_at b k) (omega arith) (omega arith)

pub lines_short : (l b : List ℕ) (n : ℕ) → length (gather (line_at l b) 0 n) ≤ n * 21
lines_short l b n = rw (sub-zero n) at (gather_short (line_at l b) 21 0 n (λ j p q. line_short l b j))

pub verdicts_short : (b : List ℕ) (n : ℕ) → length (verdicts_in b 0 n) ≤ n
verdicts_short b n =
    rw (sub-zero n, mul-one n) at (gather_short (λ k. verdict_at b k ∷ []) 1 0 n (λ j p q. omega arith))
