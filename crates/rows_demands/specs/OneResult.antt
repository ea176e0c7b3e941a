-- Two results that meet a promise of a call over rows are one, refused calls too: the answer, and every lent number but the scratch. (Of check_mesh and
-- check_edges: `mesh_lent/Answering.one_accepted`, `mesh_edges/Saying.one_edges_answer`.)
use Rattle.std.specs.Prelude.{ℕ, List, map, ◌≡◌, length, Result}
use Rattle.std.proofs.Common.{sym, ap, ◌∙◌}
use Rattle.meaning.specs.Scene.{Scene}
use Rattle.meaning.specs.Refusals.{Check, Answers, outcome_of}
use Rattle.meaning.specs.List.{leaves}
use Rattle.meaning.specs.SceneWords.{byte_of}
use Rattle.meaning.specs.WholeContacts.{word_of, rows_after}
use Rattle.meaning.specs.MeshRows.{Lent, rows_in, mesh_entries, RowsCounted, RowsListed, RowsSettled, RowsContacts}
use Rattle.meaning.specs.MeshRows.{kept, kept_told, RowsKept, ContactsKept}
use Rattle.meaning.specs.declared.KeptRows.{KeptRows}
use Rattle.meaning.specs.declared.RowPairs.{RowPairs}
use Rattle.meaning.specs.declared.Settled.{Settled}
use Rattle.meaning.specs.declared.Wanted.{Wanted}
use Rattle.meaning.specs.declared.WholeContact.{WholeContact}
use Rattle.answers.specs.Answering.{one_answer}
use Rattle.list_words.specs.OneResult.{all_judged_one}
use Rattle.contact_entries.specs.Listed.{contacts_of, all_met_one}
use Rattle.meaning.specs.declared.Refused.{Refused}
use Rattle.answers.specs.Speaking.{one_carrying}

-- ---- stretches of rows

one_count : (n : ℕ) (checks : List Check) (r r' : Result ℕ Refused) → Answers checks (λ m. m ≡ n) (outcome_of r) → Answers checks (λ m. m ≡ n) (outcome_of r')
    → r ≡ r'
one_count n checks r r' p q =
    one_carrying r r' (one_answer (λ m. m ≡ n) (λ a b h k. h ∙ sym k) checks (outcome_of r) (outcome_of r') p q)

module _ (w : RowPairs) (s : Scene) (l : Lent) (first end : ℕ) where
  pub one_counting : (r r' : Result ℕ Refused) → RowsCounted w s l first end r → RowsCounted w s l first end r' → r ≡ r'
  one_counting r r' p q = one_count (length (rows_in w s first end)) _ r r' p q

  pub one_listing : (o o' o'' : List ℕ) (r r' : Result ℕ Refused) → RowsListed w s l first end o o' r → RowsListed w s l first end o o'' r'
      → (r ≡ r') × (o' ≡ o'')
  one_listing o o' o'' r r' p q =
      let same : r ≡ r' = one_count (length (rows_in w s first end)) _ r r' p.answer q.answer in
      (same, p.list ∙ ap (λ (a : Result ℕ Refused). leaves (outcome_of a) (mesh_entries (rows_in w s first end)) o) same ∙ sym q.list)

  pub one_settling : (o o' o'' b b' b'' : List ℕ) (r r' : Result ℕ Refused) → RowsSettled w s l first end o o' b b' r
      → RowsSettled w s l first end o o'' b b'' r' → (r ≡ r') × (o' ≡ o'') × (b' ≡ b'')
  one_settling o o' o'' b b' b'' r r' p q =
      let same : r ≡ r' = one_count (length (rows_in w s first end)) _ r r' p.answer q.answer in
      let words : p.words ≡ q.words = all_judged_one s (rows_in w s first end) p.words q.words p.right q.right in (
        same,
        p.list ∙ ap (λ (a : Result ℕ Refused). leaves (outcome_of a) (mesh_entries (rows_in w s first end)) o) same ∙ sym q.list,
        p.bytes ∙ (λ i. leaves (outcome_of (same i)) (map byte_of (words i)) b) ∙ sym q.bytes,
      )

  pub one_meeting : (o o' o'' b b' b'' c c' c'' : List ℕ) (r r' : Result ℕ Refused) → RowsContacts w s l first end o o' b b' c c' r
      → RowsContacts w s l first end o o'' b b'' c c'' r' → (r ≡ r') × (o' ≡ o'') × (b' ≡ b'') × (c' ≡ c'')
  one_meeting o o' o'' b b' b'' c c' c'' r r' p q =
      let same : r ≡ r' = one_count (length (rows_in w s first end)) _ r r' p.answer q.answer in
      let met : p.contacts ≡ q.contacts =
      all_met_one s (rows_in w s first end) p.contacts p.right ∙ sym (all_met_one s (rows_in w s first end) q.contacts q.right) in (
        same,
        p.list ∙ ap (λ (a : Result ℕ Refused). leaves (outcome_of a) (mesh_entries (rows_in w s first end)) o) same ∙ sym q.list,
        p.bytes ∙ (λ i. leaves (outcome_of (same i)) (map (λ (m : WholeContact). byte_of (word_of m)) (met i)) b) ∙ sym q.bytes,
        p.rows ∙ (λ i. rows_after (outcome_of (same i)) (met i) c) ∙ sym q.rows,
      )

-- ---- of the pairs whose words are asked for

one_kept : (t : KeptRows) (checks : List Check) (r r' : Result KeptRows Refused) → Answers checks (λ u. u ≡ t) (outcome_of r) → Answers checks (λ u. u ≡ t) (outcome_of r')
    → r ≡ r'
one_kept t checks r r' p q =
    one_carrying r r' (one_answer (λ u. u ≡ t) (λ a b h k. h ∙ sym k) checks (outcome_of r) (outcome_of r') p q)

module _ (w : RowPairs) (m : Wanted) (s : Scene) (l : Lent) (first end : ℕ) where
  abbrev all : List Settled → List ℕ
  all ws = mesh_entries (kept m ws (rows_in w s first end))

  pub one_keeping : (o o' o'' b b' b'' : List ℕ) (r r' : Result KeptRows Refused) → RowsKept w m s l first end o o' b b' r
      → RowsKept w m s l first end o o'' b b'' r' → (r ≡ r') × (o' ≡ o'') × (b' ≡ b'')
  one_keeping o o' o'' b b' b'' r r' p q =
      let words : p.words ≡ q.words = all_judged_one s (rows_in w s first end) p.words q.words p.right q.right in
      let same : r ≡ r' = one_kept (kept_told m q.words) _ r r' (rw words at p.answer) q.answer in (
        same,
        p.list ∙ (λ i. leaves (outcome_of (same i)) (all (words i)) o) ∙ sym q.list,
        p.bytes ∙ (λ i. leaves (outcome_of (same i)) (map byte_of (kept m (words i) (words i))) b) ∙ sym q.bytes,
      )

  pub one_kept_meeting : (o o' o'' b b' b'' c c' c'' : List ℕ) (r r' : Result KeptRows Refused) → ContactsKept w m s l first end o o' b b' c c' r
      → ContactsKept w m s l first end o o'' b b'' c c'' r' → (r ≡ r') × (o' ≡ o'') × (b' ≡ b'') × (c' ≡ c'')
  one_kept_meeting o o' o'' b b' b'' c c' c'' r r' p q =
      let words : p.words ≡ q.words = all_judged_one s (rows_in w s first end) p.words q.words p.right q.right in
      let same : r ≡ r' = one_kept (kept_told m q.words) _ r r' (rw words at p.answer) q.answer in
      let met : p.contacts ≡ q.contacts =
      all_met_one s (kept m p.words (rows_in w s first end)) p.contacts p.met
      ∙ ap (λ (ws : List Settled). contacts_of s (kept m ws (rows_in w s first end))) words
      ∙ sym (all_met_one s (kept m q.words (rows_in w s first end)) q.contacts q.met) in (
        same,
        p.list ∙ (λ i. leaves (outcome_of (same i)) (all (words i)) o) ∙ sym q.list,
        p.bytes ∙ (λ i. leaves (outcome_of (same i)) (map byte_of (kept m (words i) (words i))) b) ∙ sym q.bytes,
        p.rows ∙ (λ i. rows_after (outcome_of (same i)) (met i) c) ∙ sym q.rows,
      )
