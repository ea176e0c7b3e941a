-- 'A refusal returns its number .., and no lent byte or number changes', of the calls with stored boxes; of reading it is
-- `AfterReading.boxed_unchanged`, and the lent number of box tests is `meaning/Runs.tests_left`.
use Rattle.std.specs.Prelude.{ℕ, List, map, ◌≡◌, ℤ, Result}
use Rattle.std.proofs.Common.{ap, subst, ◌∙◌}
use Rattle.meaning.specs.Scene.{Scene}
use Rattle.meaning.specs.Refusals.{Outcome, refused, outcome_alone, outcome_of}
use Rattle.meaning.specs.List.{pairs, entries, leaves}
use Rattle.meaning.specs.SceneWords.{byte_of}
use Rattle.meaning.specs.StoredBoxes.{FillsAfter, BoxesFilled, ListedStored, SettledStored}
use Rattle.meaning.specs.Dragging.{MovesAfter, VertexMoved}
use Rattle.meaning.specs.declared.Refusal.{Refusal}
use Rattle.meaning.specs.declared.Refused.{Refused}

pub filling_unchanged : (s : Scene) (b b' : List ℤ) (r : Result (Unit {0}) Refusal) → BoxesFilled s b b' r → (n c : ℕ) → outcome_alone r ≡ refused n c → b' ≡ b
unfolding FillsAfter
filling_unchanged s b b' r p n c e = subst (λ (o : Outcome (Unit {0})). FillsAfter o s b b') e p.buffer

pub moving_unchanged : (s : Scene) (v : ℕ) (c p' b b' : List ℤ) (r : Result (Unit {0}) Refusal) → VertexMoved s v c p' b b' r → (n m : ℕ)
    → outcome_alone r ≡ refused n m → (p' ≡ s.positions) × (b' ≡ b)
unfolding MovesAfter
moving_unchanged s v c p' b b' r p n m e = subst (λ (o : Outcome (Unit {0})). MovesAfter o s v c p' b b') e p.buffers

pub stored_list_unchanged : (s : Scene) (b : List ℤ) (o o' : List ℕ) (r : Result ℕ Refused) → ListedStored s b o o' r → (n c : ℕ)
    → outcome_of r ≡ refused n c → o' ≡ o
unfolding leaves
stored_list_unchanged s b o o' r p n c e = p.buffer ∙ ap (λ (x : Outcome ℕ). leaves x (entries (pairs s)) o) e

pub stored_words_unchanged : (s : Scene) (b : List ℤ) (o o' w w' : List ℕ) (r : Result ℕ Refused) → SettledStored s b o o' w w' r → (n c : ℕ)
    → outcome_of r ≡ refused n c → (o' ≡ o) × (w' ≡ w)
unfolding leaves
stored_words_unchanged s b o o' w w' r p n c e = (
  p.list ∙ ap (λ (x : Outcome ℕ). leaves x (entries (pairs s)) o) e,
  p.bytes ∙ ap (λ (x : Outcome ℕ). leaves x (map byte_of p.words) w) e,
)
