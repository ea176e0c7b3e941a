-- The steps from an answer to its number, as code takes them.
use Rattle.std.specs.Prelude.{ℕ, ◌+◌, ◌*◌, ◌<◌, List, [], ◌∷◌, ◌≡◌, Err, Ok, Result}
use Rattle.std.proofs.Math.Path.{refl, subst}
use Rattle.std.proofs.Common.{sym, ap, ◌∙◌, arith}
use Rattle.meaning.specs.Scene.{Scene}
use Rattle.meaning.specs.Refusals.{number_of, outcome_alone, outcome_of}
use Rattle.meaning.specs.SceneWords.{byte_of}
use Rattle.meaning.specs.Text.{TextRead}
use Rattle.meaning.specs.declared.Refusal.{Refusal}
use Rattle.meaning.specs.declared.Verdict.{Verdict}
use Rattle.meaning.specs.declared.Settled.{Settled}
use Rattle.meaning.specs.declared.SceneCounts.{SceneCounts}
use Rattle.meaning.specs.Numbers.{upper, number_for, verdict_number, scene_number, pair_number, settled_number, count_number, text_number, counts_left, ReadInto, Numbered}
use Rattle.c_numbers.specs.Small.{told_in, line_in, line_small}
use Rattle.meaning.specs.declared.Refused.{Refused}

-- the number of a refusal
abbrev RefusalNumber : Refusal → ℕ → ℕ → Type 0
RefusalNumber x c r = r ≡ number_of x * upper + c

pub scene_refused : {a : Result (Unit {0}) Refusal} {x : Refusal} {r : ℕ} → a ≡ Err x → RefusalNumber x 0 r → r ≡ scene_number a
unfolding scene_number outcome_alone number_for
scene_refused e h = rw e h

pub pair_judged : {a : Result Verdict Refusal} {v : Verdict} {r : ℕ} → a ≡ Ok v → r ≡ verdict_number v → r ≡ pair_number a
unfolding pair_number outcome_alone number_for
pair_judged e h = rw e h

pub pair_refused : {a : Result Verdict Refusal} {x : Refusal} {r : ℕ} → a ≡ Err x → RefusalNumber x 0 r → r ≡ pair_number a
unfolding pair_number outcome_alone number_for
pair_refused e h = rw e h

pub settled_decided : {a : Result Settled Refusal} {w : Settled} {r : ℕ} → a ≡ Ok w → r ≡ byte_of w → r ≡ settled_number a
unfolding settled_number outcome_alone number_for
settled_decided e h = rw e h

pub settled_refused : {a : Result Settled Refusal} {x : Refusal} {r : ℕ} → a ≡ Err x → RefusalNumber x 0 r → r ≡ settled_number a
unfolding settled_number outcome_alone number_for
settled_refused e h = rw e h

pub count_given : {a : Result ℕ Refused} {m : ℕ} {r : ℕ} → a ≡ Ok m → r ≡ m → r ≡ count_number a
unfolding count_number outcome_of number_for
count_given e h = rw e h

pub count_carried : {a : Result ℕ Refused} {x : Refused} → a ≡ Err x → told_in (outcome_of a) < upper → x.carries < upper
unfolding outcome_of told_in
count_carried e h = rw e at h

pub count_refused : {a : Result ℕ Refused} {x : Refused} {r : ℕ} → a ≡ Err x → RefusalNumber x.why x.carries r → r ≡ count_number a
unfolding count_number outcome_of number_for
count_refused e h = rw e h

module _ {text : List ℕ} {lent left : Scene} {a : Result SceneCounts Refused} (p : TextRead text lent left a) where
  pub text_line : {x : Refused} → a ≡ Err x → x.carries < upper
  unfolding outcome_of line_in
  text_line e = rw e at (line_small p)

  pub text_read : {c : SceneCounts} {l l' : List ℕ} → a ≡ Ok c → l' ≡ c.vertices ∷ c.edges ∷ c.triangles ∷ c.seams ∷ []
      → Numbered text_number (ReadInto text lent left l l') 0
  unfolding text_number outcome_of number_for counts_left
  text_read {c} e h =
      record {
        answer = Ok c;
        right = record { scene = subst (TextRead text lent left) e p; counts = h };
        is = refl;
      }

  pub text_refused : {x : Refused} {r : ℕ} {l : List ℕ} → a ≡ Err x → RefusalNumber x.why x.carries r
      → Numbered text_number (ReadInto text lent left l l) r
  unfolding text_number outcome_of number_for counts_left
  text_refused {x} e h =
      record {
        answer = Err x;
        right = record { scene = subst (TextRead text lent left) e p; counts = refl };
        is = h;
      }
