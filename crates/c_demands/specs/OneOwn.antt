-- The calls of a list of one's own: the promise determines the number and every lent buffer, and what a caller hears in the number is right.
use Rattle.std.specs.Prelude.{ℕ, ◌/◌, min, List, [], ◌∷◌, ◌++◌, map, ◌≡◌, length}
use Rattle.std.proofs.Common.{sym, ap, ◌∙◌}
use Rattle.meaning.specs.Scene.{Scene}
use Rattle.meaning.specs.Refusals.{Answers, scene_checks}
use Rattle.meaning.specs.List.{leaves}
use Rattle.meaning.specs.SceneWords.{byte_of}
use Rattle.meaning.specs.WholeContacts.{range_check, row_length, rows_after, word_of}
use Rattle.meaning.specs.OwnList.{entry_faults, word_room, size_check, OwnSettled, OwnContacts}
use Rattle.own_words.specs.OneResult.{one_own_settled}
use Rattle.own_contacts.specs.OneResult.{one_own_met}
use Rattle.c_numbers.specs.OwnSmall.{own_small, own_met_small}
use Rattle.meaning.specs.Numbers.{list_number, Numbered}
use Rattle.c_numbers.specs.Back.{heard, count, list_heard}

pub one_own_told : (s : Scene) (es b b' b'' : List ℕ) (r r' : ℕ) → Numbered list_number (OwnSettled s es b b') r
    → Numbered list_number (OwnSettled s es b b'') r' → (r ≡ r') × (b' ≡ b'')
one_own_told s es b b' b'' r r' p q =
    let (same, bytes) = one_own_settled s es b b' b'' p.answer q.answer p.right q.right in
    (p.is ∙ ap list_number same ∙ sym q.is, bytes)

pub one_own_met_told : (s : Scene) (es b b' b'' c c' c'' : List ℕ) (r r' : ℕ) → Numbered list_number (OwnContacts s es b b' c c') r
    → Numbered list_number (OwnContacts s es b b'' c c'') r' → (r ≡ r') × (b' ≡ b'') × (c' ≡ c'')
one_own_met_told s es b b' b'' c c' c'' r r' p q =
    let (same, bytes, rows) = one_own_met s es b b' b'' c c' c'' p.answer q.answer p.right q.right in
    (p.is ∙ ap list_number same ∙ sym q.is, bytes, rows)

-- ---- what is heard in the number is right

pub own_told_heard : (s : Scene) (es b b' : List ℕ) (r : ℕ) → (p : Numbered list_number (OwnSettled s es b b') r)
    → Answers (size_check es ∷ (scene_checks s ++ (entry_faults s es ++ (word_room es (length b) ∷ [])))) (λ n. n ≡ length es) (heard count r)
    × (b' ≡ leaves (heard count r) (map byte_of p.right.words) b)
own_told_heard s es b b' r p =
    rw (p.is, list_heard p.answer (own_small p.right)) (p.right.answer, p.right.bytes)

pub own_met_told_heard : (s : Scene) (es b b' c c' : List ℕ) (r : ℕ) → (p : Numbered list_number (OwnContacts s es b b' c c') r)
    → Answers (size_check es ∷ (scene_checks s ++ (entry_faults s es ++ (range_check s ∷ word_room es (min (length b) (length c / row_length)) ∷ []))))
    (λ n. n ≡ length es) (heard count r)
    × (b' ≡ leaves (heard count r) (map (λ m. byte_of (word_of m)) p.right.contacts) b)
    × (c' ≡ rows_after (heard count r) p.right.contacts c)
own_met_told_heard s es b b' c c' r p =
    rw (p.is, list_heard p.answer (own_met_small p.right)) (p.right.answer, p.right.bytes, p.right.rows)
