-- The first fault of records, computed: so that what the checks of a grammar say of small texts can be seen.
use Rattle.std.specs.Prelude.{ℕ, ◌+◌, Bool, true, false, cond, List, [], ◌∷◌, ◌≡◌, refl}
use Rattle.meaning.specs.Refusals.{Outcome, given, refused, Check, Answers}
use Rattle.meaning.specs.Lines.{Grammar}

-- the first check that holds
unfoldable pub first_held : List Check → Outcome (Unit {0})
first_held [] = given tt
first_held (k ∷ ks) = cond k.holds (refused k.number k.carries) (first_held ks)

pub held_answers : (ks : List Check) → Answers ks (λ t. Unit {0}) (first_held ks)
unfolding Answers first_held
held_answers [] = tt
held_answers (k ∷ ks) = go k.holds (held_answers ks)
  where
    go : (b : Bool) → Answers ks (λ t. Unit {0}) (first_held ks)
        → cond b (cond b (refused k.number k.carries) (first_held ks) ≡ refused k.number k.carries)
        (Answers ks (λ t. Unit {0}) (cond b (refused k.number k.carries) (first_held ks)))
    go true rest = refl
    go false rest = rest

unfoldable pub none_of : {A : Type 0} → List A → Bool
none_of [] = true
none_of (a ∷ l) = false

unfoldable pub or_else : Outcome (Unit {0}) → ℕ → Outcome (Unit {0}) → Outcome (Unit {0})
or_else (given t) line more = more
or_else (refused n c) line more = refused n line

-- the records of a text, the first of them in this line: the first fault and its line
unfoldable pub first_fault : (g : Grammar) → g.State → ℕ → List g.Record → Outcome (Unit {0})
first_fault g s line [] = given tt
first_fault g s line (r ∷ rs) = or_else (first_held (g.checks s r (none_of rs))) line (first_fault g (g.after s r) (line + 1) rs)
