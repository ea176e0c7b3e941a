-- Checks in their order: where one answer is right of some checks and another of those behind them, the first refusal of the two is right of all.
use Rattle.std.specs.Prelude.{Bool, true, false, List, [], ◌∷◌, ◌++◌, refl, Err, Ok, Result}
use Rattle.meaning.specs.Refusals.{given, refused, number_of, Check, Answers, outcome_alone}
use Rattle.meaning.specs.declared.Refusal.{Refusal}
use Rattle.answers.specs.Answering.{refuses, lets_pass, gives, refused_before, given_before}

abbrev Fine : Unit {0} → Type 0
Fine t = Unit {0}

abbrev pub first_of : Result (Unit {0}) Refusal → Result (Unit {0}) Refusal → Result (Unit {0}) Refusal
first_of (Ok tt) second = second
first_of (Err why) second = Err why

abbrev pub refused_if : Bool → Refusal → Result (Unit {0}) Refusal
refused_if true why = Err why
refused_if false why = Ok tt

-- an answer is right of these checks: refused with the first that holds, accepted where none does
abbrev pub Checked : List Check → Result (Unit {0}) Refusal → Type 0
Checked ks r = Answers ks Fine (outcome_alone r)

pub in_order : (ks more : List Check) (first second : Result (Unit {0}) Refusal) → Checked ks first → Checked more second → Checked (ks ++ more) (first_of first second)
unfolding outcome_alone
in_order ks more (Ok tt) second p q = given_before Fine Fine ks more tt (outcome_alone second) p q
in_order ks more (Err why) second p q = refused_before Fine Fine ks more (number_of why) 0 p

abbrev pub one_check : Bool → Refusal → Check
one_check holds why = record { number = number_of why; holds = holds; carries = 0 }

pub one_check_lem : (holds : Bool) (why : Refusal) → Checked (one_check holds why ∷ []) (refused_if holds why)
unfolding outcome_alone
one_check_lem true why = refuses Fine (one_check true why) [] (refused (number_of why) 0) refl refl
one_check_lem false why = lets_pass Fine (one_check false why) [] (given tt) refl (gives Fine tt tt)
