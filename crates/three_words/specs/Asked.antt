-- The refusals of a pair that is asked for: 1, 2, 3, 15 and 4 of the scene, then 5, not there, then 6, a shared vertex; and from them the answer.
use Rattle.std.specs.Prelude.{ℕ, Bool, true, false, ◌||◌, ◌≡◌, refl, Err, Ok, Result}
use Rattle.std.proofs.Math.Bool.{or-false}
use mathlib.Core.List.{List, [], ◌∷◌, ◌++◌, append-nil}
use Rattle.std.proofs.Common.{sym, ap}
use Rattle.std.proofs.Math.Path.{subst}
use Rattle.meaning.specs.Scene.{Scene, Accepted}
use Rattle.meaning.specs.Refusals.{Check, Outcome, given, refused, number_of, Answers, scene_checks, not_there, shares, outcome_alone}
use Rattle.meaning.specs.declared.Kind.{Kind}
use Rattle.meaning.specs.declared.Verdict.{Verdict}
use Rattle.meaning.specs.declared.Refusal.{Refusal}
use Rattle.answers.specs.Answering.{refuses, lets_pass, gives, is_refused, is_given, refused_before, given_before}
use Rattle.scene_checks.specs.Accepting.{after_accepted}
use Rattle.answers.specs.Below.{or_left, or_rest}

-- checks 5 and 6, each with its test
abbrev pub asked_checks : Bool → Bool → List Check
asked_checks five six =
    record { number = 5; holds = five; carries = 0 } ∷ record { number = 6; holds = six; carries = 0 } ∷ []

-- nothing is given yet
abbrev pub Passes : Unit {0} → Type 0
Passes t = Unit {0}

-- what is promised of the refusals
abbrev pub PairAsked : Scene → Kind → ℕ → ℕ → Bool → Result (Unit {0}) Refusal → Type 0
PairAsked s kind i j missing r = Answers (scene_checks s ++ asked_checks (not_there s kind i j || missing) (shares s kind i j)) Passes (outcome_alone r)

-- ---- as they are found

-- the first that holds
module _ (five six : Bool) where
  pub five_first : five ≡ true → Answers (asked_checks five six) Passes (refused 5 0)
  five_first h = refuses _ _ _ _ h refl

  pub then_six : five ≡ false → six ≡ true → Answers (asked_checks five six) Passes (refused 6 0)
  then_six h k = lets_pass _ _ _ _ h (refuses _ _ _ _ k refl)

  pub neither : five ≡ false → six ≡ false → Answers (asked_checks five six) Passes (given tt)
  neither h k = lets_pass _ _ _ _ h (lets_pass _ _ _ _ k (gives Passes tt tt))

-- of an accepted scene: the pair isn't there, or it is, and 5 says whether what is asked for of it is missing
module _ (s : Scene) (kind : Kind) (i j : ℕ) (missing : Bool) (a : Accepted s) (r : Result (Unit {0}) Refusal) where
  pub gone_asked : not_there s kind i j ≡ true → Answers (asked_checks true false) Passes (outcome_alone r) → PairAsked s kind i j missing r
  gone_asked h p =
      after_accepted s (asked_checks (not_there s kind i j || missing) (shares s kind i j)) Passes (outcome_alone r) a
      (refuses _ _ _ _ (ap (λ (b : Bool). b || missing) h) (is_refused Passes _ _ (outcome_alone r) refl p))

  pub there_asked : not_there s kind i j ≡ false → {shared : Bool} → shared ≡ shares s kind i j → Answers (asked_checks missing shared) Passes (outcome_alone r)
      → PairAsked s kind i j missing r
  there_asked h e p = after_accepted s (asked_checks (not_there s kind i j || missing) (shares s kind i j)) Passes (outcome_alone r) a (rw (h, ← e) p)

-- ---- and what the answer is then

module _ (s : Scene) (kind : Kind) (i j : ℕ) (missing : Bool) (r : Result (Unit {0}) Refusal) (p : PairAsked s kind i j missing r) where
  abbrev checks : List Check
  checks = scene_checks s ++ asked_checks (not_there s kind i j || missing) (shares s kind i j)

  module _ (e : r ≡ Ok tt) where
    passed : Answers checks Passes (given tt)
    unfolding outcome_alone
    passed = subst (λ (q : Result (Unit {0}) Refusal). Answers checks Passes (outcome_alone q)) e p

    -- the scene is accepted, and the pair is there
    pub asked_there : Accepted s × (not_there s kind i j ≡ false)
    asked_there =
        let (h1, a1) = is_given Passes _ _ tt passed in
        let (h2, a2) = is_given Passes _ _ tt a1 in
        let (h3, a3) = is_given Passes _ _ tt a2 in
        let (h4, a4) = is_given Passes _ _ tt a3 in
        let (h5, a5) = is_given Passes _ _ tt a4 in
        let (h6, a6) = is_given Passes _ _ tt a5 in
        (record { shapely = h1; in_range = h2; known = h3; sewn_well = h4; distinct = h5 }, or_left (not_there s kind i j) missing h6)

    pub then_judged : (Right : Verdict → Type 0) (v : Verdict) → Right v → Answers checks Right (given v)
    then_judged Right v right =
        subst (λ (ks : List Check). Answers ks Right (given v)) (append-nil checks) (given_before Passes Right checks [] tt (given v) passed (gives Right v right))

  pub then_refused : (Right : Verdict → Type 0) {x : Refusal} → r ≡ Err x → Answers checks Right (refused (number_of x) 0)
  unfolding outcome_alone
  then_refused Right {x} e =
      subst (λ (ks : List Check). Answers ks Right (refused (number_of x) 0)) (append-nil checks)
      (refused_before Passes Right checks [] (number_of x) 0 (subst (λ (q : Result (Unit {0}) Refusal). Answers checks Passes (outcome_alone q)) e p))

-- a pair is asked for with nothing missing of it
pub of_pair : (s : Scene) (kind : Kind) (i j : ℕ) (Right : Verdict → Type 0) (o : Outcome Verdict)
    → Answers (scene_checks s ++ asked_checks (not_there s kind i j || false) (shares s kind i j)) Right o
    → Answers (scene_checks s ++ asked_checks (not_there s kind i j) (shares s kind i j)) Right o
of_pair s kind i j Right o =
    subst (λ (five : Bool). Answers (scene_checks s ++ asked_checks five (shares s kind i j)) Right o) (or-false (not_there s kind i j))
