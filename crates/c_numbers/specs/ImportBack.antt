-- From the number back to what the answer says, as a caller goes: the upper half is the refusal's number, 0 for none; in the lower half 2^31 says
-- the end file, 2^30 the start file, and the rest is the line.
use Rattle.std.specs.Prelude.{ℕ, ◌+◌, ◌-◌, ◌*◌, ◌/◌, ◌%◌, ◌<◌, cond, List, [], ◌∷◌, ◌≡◌, refl, ltb, Err, Ok, Result}
use Rattle.std.proofs.Common.{sym, ap, ◌∙◌, arith, lt-ltb, le-ltb}
use Rattle.meaning.specs.Refusals.{number_of}
use Rattle.meaning.specs.ObjPair.{ImportSaid, counts, number, number_in, import_says}
use Rattle.meaning.specs.declared.SceneCounts.{SceneCounts}
use Rattle.meaning.specs.declared.WhichFile.TheVariants.{Start, End}
use Rattle.meaning.specs.Numbers.{upper}
use Rattle.answers.specs.Speaking.{number_in_table}
use Rattle.c_numbers.specs.Back.{counts_in}
use Rattle.c_numbers.specs.ImportNumbers.{line_limit, import_line}
use Rattle.meaning.specs.ImportNumbers.{file_bit, import_number, import_counts}
use Rattle.meaning.specs.declared.ImportRefusal.TheVariants.{In, Of}
use Rattle.meaning.specs.declared.ImportRefusal.{ImportRefusal}

-- what the lower half says, of a refusal with this number
unfoldable pub lower_heard : ℕ → ℕ → ImportSaid
lower_heard n low =
    cond (ltb low line_limit) (number n)
    (cond (ltb low (2 * line_limit)) (number_in Start n (low - line_limit)) (number_in End n (low - 2 * line_limit)))

unfoldable pub import_heard : List ℕ → ℕ → ImportSaid
import_heard l r = cond (ltb r upper) (counts (counts_in l 0)) (lower_heard (r / upper) (r % upper))

-- a refusal, with something in the lower half
low_heard : (l : List ℕ) (n low : ℕ) → 0 < n → low < upper → import_heard l (n * upper + low) ≡ lower_heard n low
unfolding import_heard
low_heard l n low some h =
    let n_is : (n * upper + low) / upper ≡ n = omega arith in
    let low_is : (n * upper + low) % upper ≡ low = omega arith in
    rw (le-ltb (n * upper + low) upper (omega arith), n_is, low_is)

no_file : (n : ℕ) → lower_heard n 0 ≡ number n
unfolding lower_heard
no_file n = refl

start_heard : (n line : ℕ) → line < line_limit → lower_heard n (line_limit + line) ≡ number_in Start n line
unfolding lower_heard
start_heard n line h =
    let is : line_limit + line - line_limit ≡ line = omega arith in
    rw (le-ltb (line_limit + line) line_limit (omega arith), lt-ltb (line_limit + line) (2 * line_limit) (omega arith), is)

end_heard : (n line : ℕ) → line < line_limit → lower_heard n (2 * line_limit + line) ≡ number_in End n line
unfolding lower_heard
end_heard n line h =
    let is : 2 * line_limit + line - 2 * line_limit ≡ line = omega arith in
    rw (le-ltb (2 * line_limit + line) line_limit (omega arith), le-ltb (2 * line_limit + line) (2 * line_limit) (omega arith), is)

pub import_heard_lem : (a : Result SceneCounts ImportRefusal) (l : List ℕ) → import_line a < line_limit → import_heard (import_counts a l) (import_number a) ≡ import_says a
unfolding import_number import_counts import_says import_line file_bit import_heard
import_heard_lem (Ok c) l h = refl
import_heard_lem (Err (Of x)) l h = low_heard l (number_of x) 0 (number_in_table x).some (omega arith) ∙ no_file (number_of x)
import_heard_lem (Err (In Start x)) l h =
    low_heard l (number_of x.why) (line_limit + x.carries) (number_in_table x.why).some (omega arith) ∙ start_heard (number_of x.why) x.carries h
import_heard_lem (Err (In End x)) l h =
    low_heard l (number_of x.why) (2 * line_limit + x.carries) (number_in_table x.why).some (omega arith) ∙ end_heard (number_of x.why) x.carries h

-- the counts that the array then holds, by what is said
unfoldable pub said_counts : ImportSaid → List ℕ → List ℕ
said_counts (counts c) l = c.vertices ∷ c.edges ∷ c.triangles ∷ c.seams ∷ []
said_counts (number n) l = l
said_counts (number_in f n line) l = l

pub counts_said : (a : Result SceneCounts ImportRefusal) (l : List ℕ) → import_counts a l ≡ said_counts (import_says a) l
unfolding import_counts import_says said_counts
counts_said (Ok c) l = refl
counts_said (Err (Of x)) l = refl
counts_said (Err (In f x)) l = refl
