-- From a number back to what the answer says, as a caller goes: the upper half is the refusal's number, 0 for none; the lower half is the
-- value, or the line or the needed count. So two answers that have one number are one answer.
use Rattle.std.specs.Prelude.{ℕ, ◌+◌, ◌*◌, ◌/◌, ◌%◌, ◌<◌, cond, List, ◌≡◌, refl, ltb, eqb, get_or, Err, Ok, Result}
use Rattle.std.proofs.Common.{sym, ap, ◌∙◌, arith, lt-ltb, le-ltb}
use Rattle.meaning.specs.Refusals.{Outcome, given, refused, outcome_alone, outcome_of}
use Rattle.meaning.specs.SceneWords.{byte_of}
use Rattle.meaning.specs.WholeContacts.{word_of, row_left}
use Rattle.meaning.specs.declared.SceneCounts.{SceneCounts}
use Rattle.meaning.specs.declared.Verdict.{Verdict}
use Rattle.meaning.specs.declared.Verdict.TheVariants.{Hit, Miss, Degenerate}
use Rattle.meaning.specs.declared.Settled as Settleds
use Rattle.meaning.specs.declared.Settled.{Settled}
use Rattle.meaning.specs.declared.ContactNumbers.{ContactNumbers}
use Rattle.meaning.specs.declared.WholeContact as WholeContacts
use Rattle.meaning.specs.declared.WholeContact.{WholeContact}
use Rattle.list_words.specs.Listed.{word_of_byte, byte_back, byte_small}
use Rattle.meaning.specs.Numbers.{upper, number_for, verdict_number, scene_number, pair_number, settled_number, list_number, count_number, text_number, counts_left}
use Rattle.meaning.specs.Numbers.{word_number, contact_number, row_after}
use Rattle.answers.specs.Speaking.{number_in_table, one_alone, one_carrying}
use Rattle.c_numbers.specs.Small.{told_in, line_in}
use Rattle.meaning.specs.declared.Refusal.{Refusal}
use Rattle.meaning.specs.declared.Refused.{Refused}

-- what is heard in a number, where a value is known by its own number
unfoldable pub heard : {A : Type 0} → (ℕ → A) → ℕ → Outcome A
heard back r = cond (ltb r upper) (given (back r)) (refused (r / upper) (r % upper))

-- small enough to be heard again
unfoldable pub Clear : {A : Type 0} → (A → ℕ) → (ℕ → A) → Outcome A → Type 0
Clear value back (given a) = (value a < upper) × (back (value a) ≡ a)
Clear value back (refused n c) = (0 < n) × (c < upper)

pub heard_number : {A : Type 0} (value : A → ℕ) (back : ℕ → A) (o : Outcome A) → Clear value back o → heard back (number_for value o) ≡ o
unfolding heard Clear number_for
heard_number value back (given a) h = rw (lt-ltb (value a) upper h.0, h.1)
heard_number value back (refused n c) h =
    let number : (n * upper + c) / upper ≡ n = omega arith in
    let carried : (n * upper + c) % upper ≡ c = omega arith in
    rw (le-ltb (n * upper + c) upper (omega arith), number, carried)

-- ---- each answer is heard as it was said

abbrev pub no_more : ℕ → Unit {0}
no_more k = tt

pub scene_heard : (a : Result (Unit {0}) Refusal) → heard no_more (scene_number a) ≡ outcome_alone a
unfolding scene_number Clear outcome_alone
scene_heard a = heard_number (λ t. 0) no_more (outcome_alone a) (clear a)
  where
    clear : (a : Result (Unit {0}) Refusal) → Clear (λ t. 0) no_more (outcome_alone a)
    clear (Ok tt) = (omega arith, refl)
    clear (Err x) = ((number_in_table x).some, omega arith)

unfoldable pub verdict_numbered : ℕ → Verdict
verdict_numbered n = cond (eqb n 0) Hit (cond (eqb n 1) Miss Degenerate)

verdict_back : (v : Verdict) → verdict_numbered (verdict_number v) ≡ v
unfolding verdict_numbered verdict_number
verdict_back Hit = refl
verdict_back Miss = refl
verdict_back Degenerate = refl

verdict_small : (v : Verdict) → verdict_number v < upper
unfolding verdict_number
verdict_small Hit = omega arith
verdict_small Miss = omega arith
verdict_small Degenerate = omega arith

pub pair_heard : (a : Result Verdict Refusal) → heard verdict_numbered (pair_number a) ≡ outcome_alone a
unfolding pair_number Clear outcome_alone
pair_heard a = heard_number verdict_number verdict_numbered (outcome_alone a) (clear a)
  where
    clear : (a : Result Verdict Refusal) → Clear verdict_number verdict_numbered (outcome_alone a)
    clear (Ok v) = (verdict_small v, verdict_back v)
    clear (Err x) = ((number_in_table x).some, omega arith)

pub settled_heard : (a : Result Settled Refusal) → heard word_of_byte (settled_number a) ≡ outcome_alone a
unfolding settled_number Clear outcome_alone
settled_heard a = heard_number byte_of word_of_byte (outcome_alone a) (clear a)
  where
    clear : (a : Result Settled Refusal) → Clear byte_of word_of_byte (outcome_alone a)
    clear (Ok w) = (omega (arith, byte_small w), byte_back w)
    clear (Err x) = ((number_in_table x).some, omega arith)

-- three words and four have hit and miss in common, and no word has degenerate's number: no number stands for two words
pub same_hit : byte_of Settleds.TheVariants.Hit ≡ verdict_number Hit
unfolding byte_of verdict_number
same_hit = refl

pub same_miss : byte_of Settleds.TheVariants.Miss ≡ verdict_number Miss
unfolding byte_of verdict_number
same_miss = refl

pub never_degenerate : (w : Settled) → ¬ (byte_of w ≡ verdict_number Degenerate)
unfolding byte_of verdict_number
never_degenerate Settleds.TheVariants.Hit e = omega (arith, e)
never_degenerate Settleds.TheVariants.Miss e = omega (arith, e)
never_degenerate Settleds.TheVariants.Touch e = omega (arith, e)
never_degenerate Settleds.TheVariants.Apart e = omega (arith, e)

abbrev pub count : ℕ → ℕ
count n = n

pub list_heard : (a : Result ℕ Refused) → told_in (outcome_of a) < upper → heard count (list_number a) ≡ outcome_of a
unfolding count_number Clear outcome_of told_in
list_heard a h = heard_number (λ n. n) count (outcome_of a) (clear a h)
  where
    clear : (a : Result ℕ Refused) → told_in (outcome_of a) < upper → Clear (λ n. n) count (outcome_of a)
    clear (Ok m) h = (h, refl)
    clear (Err x) h = ((number_in_table x.why).some, h)

-- the counts stand in the lent array
abbrev pub counts_in : List ℕ → ℕ → SceneCounts
counts_in l k = record { vertices = get_or l 0 0; edges = get_or l 1 0; triangles = get_or l 2 0; seams = get_or l 3 0 }

pub text_heard : (a : Result SceneCounts Refused) (l : List ℕ) → line_in (outcome_of a) < upper → heard (counts_in (counts_left a l)) (text_number a) ≡ outcome_of a
unfolding text_number Clear outcome_of line_in counts_left
text_heard a l h = heard_number (λ c. 0) (counts_in (counts_left a l)) (outcome_of a) (clear a h)
  where
    clear : (a : Result SceneCounts Refused) → line_in (outcome_of a) < upper → Clear (λ c. 0) (counts_in (counts_left a l)) (outcome_of a)
    clear (Ok c) h = (omega arith, refl)
    clear (Err x) h = ((number_in_table x.why).some, h)

-- a contact: the word by its number, and a hit's numbers in the lent array
abbrev pub contact_numbers_in : List ℕ → ContactNumbers
contact_numbers_in l = record { piece = get_or l 0 0; k = get_or l 1 0; first = get_or l 2 0; second = get_or l 3 0; third = get_or l 4 0 }

unfoldable pub met_by : Settled → List ℕ → WholeContact
met_by Settleds.TheVariants.Hit l = WholeContacts.TheVariants.Hit (contact_numbers_in l)
met_by Settleds.TheVariants.Miss l = WholeContacts.TheVariants.Miss
met_by Settleds.TheVariants.Touch l = WholeContacts.TheVariants.Touch
met_by Settleds.TheVariants.Apart l = WholeContacts.TheVariants.Apart

unfoldable pub whole_contact_in : List ℕ → ℕ → WholeContact
whole_contact_in l n = met_by (word_of_byte n) l

pub whole_contact_back : (m : WholeContact) (l : List ℕ) → whole_contact_in (row_left m l) (word_number m) ≡ m
unfolding whole_contact_in met_by word_of_byte byte_of word_of row_left
whole_contact_back (WholeContacts.TheVariants.Hit m) l = refl
whole_contact_back WholeContacts.TheVariants.Miss l = refl
whole_contact_back WholeContacts.TheVariants.Touch l = refl
whole_contact_back WholeContacts.TheVariants.Apart l = refl

pub contact_heard : (a : Result WholeContact Refusal) (l : List ℕ) → heard (whole_contact_in (row_after (outcome_alone a) l)) (contact_number a) ≡ outcome_alone a
unfolding contact_number Clear outcome_alone row_after
contact_heard a l = heard_number word_number (whole_contact_in (row_after (outcome_alone a) l)) (outcome_alone a) (clear a)
  where
    clear : (a : Result WholeContact Refusal) → Clear word_number (whole_contact_in (row_after (outcome_alone a) l)) (outcome_alone a)
    clear (Ok m) = (omega (arith, byte_small (word_of m)), whole_contact_back m l)
    clear (Err x) = ((number_in_table x).some, omega arith)

-- ---- so a number is one answer's

pub one_scene_number : (a b : Result (Unit {0}) Refusal) → scene_number a ≡ scene_number b → a ≡ b
one_scene_number a b e = one_alone a b (sym (scene_heard a) ∙ ap (heard no_more) e ∙ scene_heard b)

pub one_pair_number : (a b : Result Verdict Refusal) → pair_number a ≡ pair_number b → a ≡ b
one_pair_number a b e = one_alone a b (sym (pair_heard a) ∙ ap (heard verdict_numbered) e ∙ pair_heard b)

pub one_settled_number : (a b : Result Settled Refusal) → settled_number a ≡ settled_number b → a ≡ b
one_settled_number a b e = one_alone a b (sym (settled_heard a) ∙ ap (heard word_of_byte) e ∙ settled_heard b)

pub one_list_number : (a b : Result ℕ Refused) → told_in (outcome_of a) < upper → told_in (outcome_of b) < upper → list_number a ≡ list_number b → a ≡ b
one_list_number a b h k e = one_carrying a b (sym (list_heard a h) ∙ ap (heard count) e ∙ list_heard b k)

pub one_text_number : (a b : Result SceneCounts Refused) (l : List ℕ) → line_in (outcome_of a) < upper → line_in (outcome_of b) < upper
    → text_number a ≡ text_number b → counts_left a l ≡ counts_left b l → a ≡ b
one_text_number a b l h k e f =
    one_carrying a b (sym (text_heard a l h) ∙ (λ i. heard (counts_in (f i)) (e i)) ∙ text_heard b l k)
