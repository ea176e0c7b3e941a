-- Two results that meet the promise are one, refused calls too: the answer, and every number of the list.
use Rattle.std.specs.Prelude.{ℕ, Bool, List, [], ◌∷◌, map, ◌≡◌, length, Result}
use Rattle.std.proofs.Common.{sym, ap, ◌∙◌, subst}
use Rattle.meaning.specs.Scene.{Scene, edge_count}
use Rattle.meaning.specs.Refusals.{Outcome, Check, Answers, room_check, outcome_of}
use Rattle.meaning.specs.List.{leaves}
use Rattle.meaning.specs.MeshRows.{Lent, row_checks}
use Rattle.meaning.specs.PiercedRows.{through_number, through_rows, yes_of, PiercedListed}
use Rattle.meaning.specs.declared.Frame.{Frame}
use Rattle.answers.specs.Answering.{one_answer}
use Rattle.through_laws.specs.Deciding.{answers_of, one_answers}
use Rattle.through_laws.specs.Listing.{entries_of, count_of}
use Rattle.meaning.specs.declared.Refused.{Refused}
use Rattle.answers.specs.Speaking.{one_carrying}

module _ (f : Frame) (s : Scene) (l : Lent) (first end : ℕ) (o : List ℕ) where
  -- the checks of the call, by the count that is right
  abbrev pub pierced_checks : List Check
  pierced_checks = row_checks s l (edge_count s) first end (room_check (length o) (count_of f s (through_rows f s first end)) ∷ [])

  module _ {o' : List ℕ} {r : Result ℕ Refused} (p : PiercedListed f s l first end o o' r) where
    told : p.answers ≡ answers_of f s (through_rows f s first end)
    told = one_answers f s (through_rows f s first end) p.answers p.right

    -- the answer and the list of any right result, without its answers
    pub answer_told : Answers pierced_checks (λ n. n ≡ count_of f s (through_rows f s first end)) (outcome_of r)
    answer_told =
        subst
        (λ (bs : List Bool). Answers (row_checks s l (edge_count s) first end (room_check (length o) (length (yes_of bs bs)) ∷ [])) (λ n. n ≡ length (yes_of bs bs)) (outcome_of r))
        told p.answer

    pub list_told : o' ≡ leaves (outcome_of r) (entries_of f s (through_rows f s first end)) o
    list_told =
        subst (λ (bs : List Bool). o' ≡ leaves (outcome_of r) (map through_number (yes_of bs (through_rows f s first end))) o) told p.list

  module _ {o₁ o₂ : List ℕ} {r r' : Result ℕ Refused} (p : PiercedListed f s l first end o o₁ r) (q : PiercedListed f s l first end o o₂ r') where
    says_one : outcome_of r ≡ outcome_of r'
    says_one =
        one_answer (λ n. n ≡ count_of f s (through_rows f s first end)) (λ a b h k. h ∙ sym k) pierced_checks (outcome_of r) (outcome_of r')
        (answer_told p) (answer_told q)

    pub one_pierced_listing : (r ≡ r') × (o₁ ≡ o₂)
    one_pierced_listing = (
      one_carrying r r' says_one,
      list_told p ∙ ap (λ (w : Outcome ℕ). leaves w (entries_of f s (through_rows f s first end)) o) says_one ∙ sym (list_told q),
    )
