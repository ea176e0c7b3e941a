-- The answer to claims as a number: what it tells or carries stays below 2^32, for a text has few lines.
use Rattle.std.specs.Prelude.{ℕ, ◌≤◌, ◌<◌, Bool, ◌≡◌, refl, Result}
use mathlib.Core.List.{List, [], ◌∷◌}
use Rattle.std.proofs.Common.{sym, ◌∙◌, arith, ltb-false}
use Rattle.std.proofs.Math.Path.{ap}
use Rattle.std.proofs.Math.Dec.{ltb}
use Rattle.std.proofs.Math.ListN.{length, length-append}
use Rattle.meaning.specs.Limits.{text_limit}
use Rattle.meaning.specs.Scene.{Scene}
use Rattle.meaning.specs.Refusals.{Outcome, given, refused, Check, Answers, outcome_of}
use Rattle.meaning.specs.Lines.{lines_of}
use Rattle.meaning.specs.Claims.{Claim, claim_lines, AllAnswered, claims_first, FirstIs, claims_last, ClaimsOutcome, before, faulty, read, how_many_told, ClaimsChecked}
use Rattle.answers.specs.Answering.{is_refused, is_past, is_given}
use Rattle.text_laws.specs.Unique.{records_few}
use Rattle.claim_line.specs.Rendered.{claims_readable}
use Rattle.claim_answers.specs.Answering.{all_many}
use Rattle.claim_answers.specs.Checking.{one_claims_answer}
use Rattle.answers.specs.Deciding.{holds_or_not}
use Rattle.meaning.specs.Numbers.{upper, claims_number, Numbered}
use Rattle.c_numbers.specs.Small.{told_in}
use Rattle.meaning.specs.declared.Refused.{Refused}

unfoldable Bare : List Check → Type 0
Bare [] = Unit {0}
Bare (k ∷ ks) = (k.carries ≡ 0) × Bare ks

bare_carries : {A : Type 0} (R : A → Type 0) (ks : List Check) (n c : ℕ) → Bare ks → Answers ks R (refused n c) → c ≡ 0
unfolding Bare Answers
bare_carries R [] n c b p = absurd p
bare_carries {A} R (k ∷ ks) n c b p =
    holds_or_not k.holds
    (λ h.
    let e : ◌≡◌ {A = Outcome A} (refused n c) (refused k.number k.carries) = is_refused R k ks (refused n c) h p in
    let same : c ≡ k.carries = cc in
    same ∙ b.0)
    (λ h. bare_carries R ks n c b.1 (is_past R k ks (refused n c) h p))

brief : (s : Scene) (text : List ℕ) → FirstIs s text (given tt) → length text ≤ text_limit
brief s text p =
    let (h1, p1) = is_given (λ t. Unit {0}) _ _ tt p in
    let (h2, p2) = is_given (λ t. Unit {0}) _ _ tt p1 in
    let (h3, p3) = is_given (λ t. Unit {0}) _ _ tt p2 in
    let (h4, p4) = is_given (λ t. Unit {0}) _ _ tt p3 in
    let (h5, p5) = is_given (λ t. Unit {0}) _ _ tt p4 in
    let (h6, p6) = is_given (λ t. Unit {0}) _ _ tt p5 in
    ltb-false text_limit (length text) h6

module _ (s : Scene) (text : List ℕ) (room : ℕ) where
  last_small : (cs : List Claim) → length cs < upper → (o : Outcome (List Bool)) → Answers (claims_last room cs) (AllAnswered s cs) o
      → told_in (how_many_told o) < upper
  unfolding Answers told_in how_many_told
  last_small cs few o p =
      holds_or_not (ltb room (length cs))
      (λ h. let e = is_refused (AllAnswered s cs) full [] o h p in rw e few)
      (λ h. right o (is_past (AllAnswered s cs) full [] o h p))
    where
      full : Check
      full = record { number = 7; holds = ltb room (length cs); carries = length cs }

      right : (o : Outcome (List Bool)) → Answers [] (AllAnswered s cs) o → told_in (how_many_told o) < upper
      right (given bs) q = omega (arith, all_many s cs bs q)
      right (refused n c) q = absurd q

  outcome_small : (o : Outcome (List Bool)) → ClaimsOutcome s text room o → told_in (how_many_told o) < upper
  unfolding told_in how_many_told Bare
  outcome_small o (before n c e p) =
      let none : c ≡ 0 = bare_carries (λ t. Unit {0}) (claims_first s text) n c (refl, (refl, (refl, (refl, (refl, (refl, tt)))))) p in
      rw e (omega arith)
  outcome_small o (faulty n line e p f) =
      rw e
      (omega (arith, f.place, records_few (claims_readable s) f.above, brief s text p, ap length f.lines ∙ length-append (lines_of (claim_lines s) f.above) f.below))
  outcome_small o (read cs p h a) =
      last_small cs (omega (arith, records_few (claims_readable s) cs, ap length h.lines, brief s text p)) o a

pub claims_small : {s : Scene} {text o o' : List ℕ} {r : Result ℕ Refused} → ClaimsChecked s text o o' r → told_in (outcome_of r) < upper
claims_small {s} {text} {o} {o'} {r} h = rw h.says (outcome_small s text (length o) h.outcome h.right)

-- two numbers that are told of the claims are one, and so are the buffers
pub one_claims_told : {s : Scene} {text o a b : List ℕ} {m n : ℕ} → Numbered claims_number (ClaimsChecked s text o a) m → Numbered claims_number (ClaimsChecked s text o b) n
    → (m ≡ n) × (a ≡ b)
one_claims_told p q =
    let (same, buffers) = one_claims_answer p.right q.right in
    (p.is ∙ ap claims_number same ∙ sym q.is, buffers)
