-- Two results that meet the promise are equal, refused calls too.
use Rattle.std.specs.Prelude.{ℕ, Bool, true, false, ◌≡◌, refl, Result}
use Rattle.meaning.specs.Scene.{Scene}
use Rattle.meaning.specs.Pierced.{PiercedIs, pierced_checks, PiercedDecided}
use Rattle.meaning.specs.declared.Frame.{Frame}
use Rattle.answers.specs.Answering.{one_answer}
use Rattle.meaning.specs.declared.Refusal.{Refusal}
use Rattle.meaning.specs.Refusals.{outcome_alone}
use Rattle.answers.specs.Speaking.{one_alone}

pub one_word_lem : (s : Scene) (f : Frame) (i j : ℕ) (a b : Bool) → PiercedIs s f i j a → PiercedIs s f i j b → a ≡ b
unfolding PiercedIs
one_word_lem s f i j true true p q = refl
one_word_lem s f i j true false p q = absurd (q p)
one_word_lem s f i j false true p q = absurd (p q)
one_word_lem s f i j false false p q = refl

pub one_pierced_answer : (s : Scene) (f : Frame) (i j : ℕ) (r r' : Result Bool Refusal) → PiercedDecided s f i j r → PiercedDecided s f i j r' → r ≡ r'
one_pierced_answer s f i j r r' p q =
    one_alone r r' (one_answer (PiercedIs s f i j) (one_word_lem s f i j) (pierced_checks s i j) (outcome_alone r) (outcome_alone r') p q)
