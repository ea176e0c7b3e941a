-- A list of one's own: entries that a caller lends, each the number of a pair that is asked for, and the words or contacts of these pairs.
use Rattle.std.specs.Prelude.{ℕ, ◌+◌, ◌/◌, ◌%◌, min, Bool, ◌||◌, List, [], ◌∷◌, ◌++◌, map, ◌≡◌, leb, ltb, length, Result}
use Rattle.sequences.specs.Pick.{pick}
use Rattle.meaning.specs.Scene.{Scene}
use Rattle.meaning.specs.Refusals.{Check, Answers, scene_checks, not_there, shares, room_check, outcome_of}
use Rattle.meaning.specs.List.{Pair, pair, place_step, kind_step, no_number, leaves}
use Rattle.meaning.specs.SceneWords.{byte_of, AllSettled}
use Rattle.meaning.specs.WholeContacts.{range_check, row_length, rows_after, word_of, AllContacts}
use Rattle.meaning.specs.declared.Kind.TheVariants.{PointTriangle, EdgeEdge}
use Rattle.meaning.specs.declared.Settled.{Settled}
use Rattle.meaning.specs.declared.WholeContact.{WholeContact}
use Rattle.meaning.specs.declared.Refused.{Refused}

-- the pair that an entry asks for: its kind, then the two places
abbrev pub asked_for : ℕ → Pair
asked_for e = pair (pick (ltb e kind_step) PointTriangle EdgeEdge) (e / place_step % place_step) (e % place_step)

-- 5: no pair's number, or a vertex, edge or triangle that isn't there
abbrev pub entry_missing : Scene → ℕ → Bool
entry_missing s e = leb no_number e || not_there s (asked_for e).kind (asked_for e).first (asked_for e).second

-- 6: the pair shares a vertex
abbrev pub entry_shared : Scene → ℕ → Bool
entry_shared s e = shares s (asked_for e).kind (asked_for e).first (asked_for e).second

-- of entry number n; the refusal carries that number
abbrev pub missing_check : Scene → ℕ → ℕ → Check
missing_check s n e = record { number = 5; holds = entry_missing s e; carries = n }

abbrev pub shared_check : Scene → ℕ → ℕ → Check
shared_check s n e = record { number = 6; holds = entry_shared s e; carries = n }

-- the first entry at fault, in it 5 before 6; here the first has number n
unfoldable pub faulty_from : Scene → ℕ → List ℕ → List Check
faulty_from s n [] = []
faulty_from s n (e ∷ es) = missing_check s n e ∷ shared_check s n e ∷ faulty_from s (n + 1) es

-- entries are counted from 1
abbrev pub entry_faults : Scene → List ℕ → List Check
entry_faults s es = faulty_from s 1 es

-- 1: a count over its size. A list may have so many entries, so that an entry's number and a count needed are of 32 bits
abbrev pub own_limit : ℕ
own_limit = 4_294_967_295

abbrev pub size_check : List ℕ → Check
size_check es = record { number = 1; holds = ltb own_limit (length es); carries = 0 }

-- 7: more entries than room for their words; it carries the count needed
abbrev pub word_room : List ℕ → ℕ → Check
word_room es room = room_check room (length es)

-- the words of the entries es are written into a buffer that held b and holds b'. The list's size and the scene's
-- refusals come first, then those of an entry, then 7
pub record OwnSettled (s : Scene) (es b b' : List ℕ) (r : Result ℕ Refused) : Type 0 where
  pub answer : Answers (size_check es ∷ (scene_checks s ++ (entry_faults s es ++ (word_room es (length b) ∷ [])))) (λ n. n ≡ length es) (outcome_of r)
  pub words : List Settled
  pub right : AllSettled s (map asked_for es) words
  pub bytes : b' ≡ leaves (outcome_of r) (map byte_of words) b

-- the same with the contact of each hit in its row of a buffer that held c and holds c'; 16 stands between 6 and 7, and the room is the
-- smaller of the two
pub record OwnContacts (s : Scene) (es b b' c c' : List ℕ) (r : Result ℕ Refused) : Type 0 where
  pub answer : Answers
      (size_check es ∷ (scene_checks s ++ (entry_faults s es ++ (range_check s ∷ word_room es (min (length b) (length c / row_length)) ∷ []))))
      (λ n. n ≡ length es) (outcome_of r)
  pub contacts : List WholeContact
  pub right : AllContacts s (map asked_for es) contacts
  pub bytes : b' ≡ leaves (outcome_of r) (map (λ m. byte_of (word_of m)) contacts) b
  pub rows : c' ≡ rows_after (outcome_of r) contacts c
