-- What an answer about a list of one's own tells or carries stays below 2^32, so that it crosses to C as one number.
use Rattle.std.specs.Prelude.{ℕ, ◌+◌, ◌/◌, ◌≤◌, ◌<◌, min, true, false, List, [], ◌∷◌, ◌++◌, ◌≡◌, refl, length, Result}
use Rattle.std.proofs.Common.{arith, ltb-false}
use Rattle.meaning.specs.Scene.{Scene}
use Rattle.meaning.specs.Refusals.{Outcome, given, refused, Check, Answers, scene_checks, outcome_of}
use Rattle.meaning.specs.WholeContacts.{range_check, row_length}
use Rattle.answers.specs.Answering.{is_refused, is_past}
use Rattle.answers.specs.Deciding.{holds_or_not}
use Rattle.meaning.specs.Numbers.{upper}
use Rattle.c_numbers.specs.Small.{told_in}
use Rattle.meaning.specs.OwnList.{missing_check, shared_check, faulty_from, entry_faults, word_room, size_check, own_limit, OwnSettled, OwnContacts}
use Rattle.meaning.specs.declared.Refused.{Refused}

-- no check of the list carries more
unfoldable CarrySmall : List Check → Type 0
CarrySmall [] = Unit {0}
CarrySmall (k ∷ ks) = (k.carries < upper) × CarrySmall ks

both_carry : (ks more : List Check) → CarrySmall ks → CarrySmall more → CarrySmall (ks ++ more)
unfolding CarrySmall
both_carry [] more a b = b
both_carry (k ∷ ks) more a b = (a.0, both_carry ks more a.1 b)

scene_carry : (s : Scene) → CarrySmall (scene_checks s)
unfolding CarrySmall
scene_carry s = (omega arith, (omega arith, (omega arith, (omega arith, (omega arith, tt)))))

entries_carry : (s : Scene) (n : ℕ) (es : List ℕ) → n + length es ≤ upper → CarrySmall (faulty_from s n es)
unfolding CarrySmall faulty_from
entries_carry s n [] h = tt
entries_carry s n (e ∷ es) h = (omega arith, (omega arith, entries_carry s (n + 1) es (omega arith)))

told_small : (es : List ℕ) (ks : List Check) → length es < upper → CarrySmall ks → (o : Outcome ℕ) → Answers ks (λ n. n ≡ length es) o → told_in o < upper
unfolding CarrySmall Answers told_in
told_small es [] h c (given n) p = omega arith
told_small es [] h c (refused n m) p = absurd p
told_small es (k ∷ ks) h c o p =
    holds_or_not k.holds
    (λ t. let e = is_refused (λ n. n ≡ length es) k ks o t p in rw e c.0)
    (λ t. told_small es ks h c.1 o (is_past (λ n. n ≡ length es) k ks o t p))

-- behind the list's own size
sized_small : (es : List ℕ) (ks : List Check) → (length es ≤ own_limit → CarrySmall ks) → (o : Outcome ℕ)
    → Answers (size_check es ∷ ks) (λ n. n ≡ length es) o
    → told_in o < upper
unfolding told_in
sized_small es ks c o p =
    holds_or_not (size_check es).holds
    (λ t. let e = is_refused (λ n. n ≡ length es) (size_check es) ks o t p in rw e (omega arith))
    (λ t. let few = ltb-false own_limit (length es) t in told_small es ks (omega arith) (c few) o (is_past (λ n. n ≡ length es) (size_check es) ks o t p))

-- the scene's checks, those of the entries, and those that come last
all_carry : (s : Scene) (es : List ℕ) (last : List Check) → length es ≤ own_limit → CarrySmall last → CarrySmall (scene_checks s ++ (entry_faults s es ++ last))
all_carry s es last few h =
    both_carry (scene_checks s) (entry_faults s es ++ last) (scene_carry s) (both_carry (entry_faults s es) last (entries_carry s 1 es (omega arith)) h)

pub own_small : {s : Scene} {es b b' : List ℕ} {r : Result ℕ Refused} → OwnSettled s es b b' r → told_in (outcome_of r) < upper
unfolding CarrySmall
own_small {s} {es} {b} {b'} {r} p =
    sized_small es (scene_checks s ++ (entry_faults s es ++ (word_room es (length b) ∷ [])))
    (λ few. all_carry s es (word_room es (length b) ∷ []) few (omega arith, tt)) (outcome_of r) p.answer

pub own_met_small : {s : Scene} {es b b' c c' : List ℕ} {r : Result ℕ Refused} → OwnContacts s es b b' c c' r → told_in (outcome_of r) < upper
unfolding CarrySmall
own_met_small {s} {es} {b} {b'} {c} {c'} {r} p =
    let room = word_room es (min (length b) (length c / row_length)) in
    sized_small es (scene_checks s ++ (entry_faults s es ++ (range_check s ∷ room ∷ [])))
    (λ few. all_carry s es (range_check s ∷ room ∷ []) few (omega arith, (omega arith, tt))) (outcome_of r) p.answer
