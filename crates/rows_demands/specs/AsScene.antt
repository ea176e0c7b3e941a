-- A scene is a mesh: all its rows say what the calls over scenes say. As many pairs are counted, the words of the pairs are the same, and so are the contacts.
use Rattle.std.specs.Prelude.{ℕ, List, [], ◌≡◌, length, Result}
use Rattle.std.proofs.Common.{sym, ap, ◌∙◌, subst}
use Rattle.meaning.specs.Scene.{Scene}
use Rattle.meaning.specs.Refusals.{given, Answers, scene_checks, outcome_of}
use Rattle.meaning.specs.List.{Pair, pairs, Counted}
use Rattle.meaning.specs.SceneWords.{AllSettled, SettledScene}
use Rattle.meaning.specs.WholeContacts.{ContactsListed}
use Rattle.meaning.specs.MeshRows.{Lent, row_count, rows_in, row_checks, RowsCounted, RowsSettled, RowsContacts}
use Rattle.meaning.specs.declared.RowPairs.TheVariants.{Listed}
use Rattle.answers.specs.Deciding.{given_right}
use Rattle.list_words.specs.OneResult.{all_judged_one}
use Rattle.contact_entries.specs.Listed.{contacts_of, all_met_one}
use Rattle.mesh_laws.specs.Rows.{all_rows}
use Rattle.meaning.specs.declared.Refused.{Refused}

module _ (s : Scene) (l : Lent) where
  abbrev every : List Pair
  every = rows_in Listed s 0 (row_count s)

  pub counted_as_scene : (r r' : Result ℕ Refused) (n k : ℕ) → Counted s r → outcome_of r ≡ given n → RowsCounted Listed s l 0 (row_count s) r' → outcome_of r' ≡ given k
      → n ≡ k
  counted_as_scene r r' n k p e q f =
      given_right (λ m. m ≡ length (pairs s)) (scene_checks s) n (subst (Answers (scene_checks s) (λ m. m ≡ length (pairs s))) e p)
      ∙ ap length (sym (all_rows s))
      ∙ sym
      (given_right (λ m. m ≡ length every) (row_checks s l (row_count s) 0 (row_count s) []) k
      (subst (Answers (row_checks s l (row_count s) 0 (row_count s) []) (λ m. m ≡ length every)) f q))

  pub words_as_scene : (o o' b b' : List ℕ) (r : Result ℕ Refused) (p : SettledScene s o o' b b' r) (x x' y y' : List ℕ) (r' : Result ℕ Refused)
      (q : RowsSettled Listed s l 0 (row_count s) x x' y y' r') → p.words ≡ q.words
  words_as_scene o o' b b' r p x x' y y' r' q =
      all_judged_one s (pairs s) p.words q.words p.right (subst (λ (ps : List Pair). AllSettled s ps q.words) (all_rows s) q.right)

  pub contacts_as_scene : (o o' b b' c c' : List ℕ) (r : Result ℕ Refused) (p : ContactsListed s o o' b b' c c' r) (x x' y y' z z' : List ℕ) (r' : Result ℕ Refused)
      (q : RowsContacts Listed s l 0 (row_count s) x x' y y' z z' r') → p.contacts ≡ q.contacts
  contacts_as_scene o o' b b' c c' r p x x' y y' z z' r' q =
      all_met_one s (pairs s) p.contacts p.right
      ∙ ap (contacts_of s) (sym (all_rows s))
      ∙ sym (all_met_one s every q.contacts q.right)
