-- An answer as one number, since an enum cannot cross to C: the value, or the refusal's number times 2^32 with what the refusal carries.
use Rattle.std.specs.Prelude.{ℕ, ◌+◌, ◌*◌, List, [], ◌∷◌, ◌≡◌, ℤ, Err, Ok, Result}
use Rattle.meaning.specs.Scene.{Scene}
use Rattle.meaning.specs.Refusals.{Outcome, given, refused, outcome_alone, outcome_of}
use Rattle.meaning.specs.SceneWords.{byte_of}
use Rattle.meaning.specs.Text.{TextRead}
use Rattle.meaning.specs.declared.Verdict.{Verdict}
use Rattle.meaning.specs.declared.Verdict.TheVariants.{Hit, Miss, Degenerate}
use Rattle.meaning.specs.StoredBoxes.{BoxedRead}
use Rattle.meaning.specs.WholeContacts.{WholeContactFound, word_of, row_left}
use Rattle.meaning.specs.declared.Kind.{Kind}
use Rattle.meaning.specs.declared.WholeContact.{WholeContact}
use Rattle.meaning.specs.declared.Refusal.{Refusal}
use Rattle.meaning.specs.declared.Refused.{Refused}
use Rattle.meaning.specs.declared.Settled.{Settled}
use Rattle.meaning.specs.declared.SceneCounts.{SceneCounts}

-- 2^32: a value, a line and a needed count stay below it
abbrev pub upper : ℕ
upper = 4_294_967_296

unfoldable pub number_for : {A : Type 0} → (A → ℕ) → Outcome A → ℕ
number_for value (given a) = value a
number_for value (refused n c) = n * upper + c

-- r is the number of an answer that is right
pub record Numbered {A : Type 0} (number : A → ℕ) (Right : A → Type 0) (r : ℕ) : Type 0 where
  pub answer : A
  pub right : Right answer
  pub is : r ≡ number answer

-- the three-case verdict's own numbers. Hit and miss are those of the four words, whose touch and apart are 3 and 4: no number stands
-- for two words
unfoldable pub verdict_number : Verdict → ℕ
verdict_number Hit = 0
verdict_number Miss = 1
verdict_number Degenerate = 2

-- 0 for an accepted scene; a verdict's number; a word's number; a count; 0 for a text that was read
unfoldable pub scene_number : Result (Unit {0}) Refusal → ℕ
scene_number r = number_for (λ t. 0) (outcome_alone r)

unfoldable pub pair_number : Result Verdict Refusal → ℕ
pair_number r = number_for verdict_number (outcome_alone r)

unfoldable pub settled_number : Result Settled Refusal → ℕ
settled_number r = number_for byte_of (outcome_alone r)

unfoldable pub count_number : Result ℕ Refused → ℕ
count_number r = number_for (λ n. n) (outcome_of r)

-- what is counted: listed pairs, answered claims, the bytes of a text
abbrev pub list_number : Result ℕ Refused → ℕ
list_number = count_number

abbrev pub claims_number : Result ℕ Refused → ℕ
claims_number = count_number

abbrev pub saved_number : Result ℕ Refused → ℕ
saved_number = count_number

unfoldable pub text_number : Result SceneCounts Refused → ℕ
text_number r = number_for (λ c. 0) (outcome_of r)

-- the four counts of a text that was read, in a lent array; a refusal leaves what stood there
unfoldable pub counts_left : Result SceneCounts Refused → List ℕ → List ℕ
counts_left (Ok c) l = c.vertices ∷ c.edges ∷ c.triangles ∷ c.seams ∷ []
counts_left (Err x) l = l

pub record ReadInto (text : List ℕ) (lent left : Scene) (l l' : List ℕ) (r : Result SceneCounts Refused) : Type 0 where
  pub scene : TextRead text lent left r
  pub counts : l' ≡ counts_left r l

-- the four counts in a lent array, as where a text is read without boxes
pub record BoxedInto (text : List ℕ) (lent left : Scene) (b b' : List ℤ) (l l' : List ℕ) (r : Result SceneCounts Refused) : Type 0 where
  pub read : BoxedRead text lent left b b' r
  pub counts : l' ≡ counts_left r l

abbrev pub word_number : WholeContact → ℕ
word_number m = byte_of (word_of m)

unfoldable pub contact_number : Result WholeContact Refusal → ℕ
contact_number r = number_for word_number (outcome_alone r)

-- nothing but a hit changes the lent array
unfoldable pub row_after : Outcome WholeContact → List ℕ → List ℕ
row_after (given m) o = row_left m o
row_after (refused n c) o = o

pub record ContactInto (s : Scene) (kind : Kind) (i j : ℕ) (o o' : List ℕ) (r : Result WholeContact Refusal) : Type 0 where
  pub found : WholeContactFound s kind i j r
  pub row : o' ≡ row_after (outcome_alone r) o
