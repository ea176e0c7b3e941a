-- Calls over a mesh, and over an edge and a triangle of a scene: each promise determines the number, the array that is told and every lent list but the
-- scratch, refused calls too.
use Rattle.std.specs.Prelude.{ℕ, min, Bool, List, [], ◌∷◌, map, ◌≡◌, refl, length, Result}
use Rattle.std.proofs.Common.{sym, ap, ◌∙◌}
use Rattle.meaning.specs.Scene.{Scene}
use Rattle.meaning.specs.Refusals.{Outcome, Check, Answers, room_check, outcome_alone, outcome_of}
use Rattle.meaning.specs.List.{leaves}
use Rattle.meaning.specs.Claims.{answer_byte}
use Rattle.meaning.specs.SceneWords.{byte_of}
use Rattle.meaning.specs.Numbers.{number_for, Numbered}
use Rattle.meaning.specs.Pierced.{PiercedDecided}
use Rattle.meaning.specs.Mesh.{MeshAccepted}
use Rattle.meaning.specs.MeshEdges.{edges_say, EdgesChecked}
use Rattle.meaning.specs.MeshRows.{Lent, row_count, row_checks, rows_in, mesh_entries, RowsCounted, RowsListed, RowsSettled, RowsContacts}
use Rattle.meaning.specs.MeshRows.{kept, kept_told, RowsKept, ContactsKept}
use Rattle.meaning.specs.PiercedRows.{PiercedListed}
use Rattle.meaning.specs.MeshNumbers.{refusal_of, count_left, kept_left, edges_left, Left}
use Rattle.meaning.specs.declared.Frame.{Frame}
use Rattle.meaning.specs.declared.KeptRows.{KeptRows}
use Rattle.meaning.specs.declared.RowPairs.{RowPairs}
use Rattle.meaning.specs.declared.Settled.{Settled}
use Rattle.meaning.specs.declared.Wanted.{Wanted}
use Rattle.meaning.specs.WholeContacts.{range_check, contact_room, rows_after, word_of}
use Rattle.meaning.specs.declared.WholeContact.{WholeContact}
use Rattle.answers.specs.Answering.{one_answer}
use Rattle.contact_entries.specs.Listed.{contacts_of, all_met_one}
use Rattle.list_words.specs.OneResult.{all_judged_one}
use Rattle.mesh_lent.specs.Answering.{one_accepted}
use Rattle.mesh_edges.specs.Saying.{one_edges_answer}
use Rattle.pierced_pair.specs.OneResult.{one_pierced_answer}
use Rattle.pierced_rows.specs.OneResult.{one_pierced_listing}
use Rattle.meaning.specs.declared.Refusal.{Refusal}

-- one outcome: one number, and one array that is told
one_left : {A B : Type 0} {says : A → Outcome B} {left : Outcome B → List ℕ → List ℕ} {R S : A → Type 0} {t t' t'' : List ℕ} {r r' : ℕ}
    (p : Left says left R t t' r)
    (q : Left says left S t t'' r')
    → says p.answer ≡ says q.answer
    → (r ≡ r') × (t' ≡ t'')
one_left {A} {B} {says} {left} {R} {S} {t} p q e = (
  p.is ∙ ap refusal_of e ∙ sym q.is,
  p.told ∙ ap (λ (o : Outcome B). left o t) e ∙ sym q.told,
)

pub one_mesh_check : (s : Scene) (n r r' : ℕ) → Numbered (λ (a : Result (Unit {0}) Refusal). refusal_of (outcome_alone a)) (MeshAccepted s n) r
    → Numbered (λ (a : Result (Unit {0}) Refusal). refusal_of (outcome_alone a)) (MeshAccepted s n) r'
    → r ≡ r'
one_mesh_check s n r r' p q =
    p.is ∙ ap (λ (a : Result (Unit {0}) Refusal). refusal_of (outcome_alone a)) (one_accepted s n p.answer q.answer p.right q.right) ∙ sym q.is

pub one_edges_told : (s : Scene) (sides order : List ℕ) (table places : ℕ) (t t' t'' : List ℕ) (r r' : ℕ)
    → Left edges_say edges_left (EdgesChecked s sides order table places) t t' r
    → Left edges_say edges_left (EdgesChecked s sides order table places) t t'' r'
    → (r ≡ r') × (t' ≡ t'')
one_edges_told s sides order table places t t' t'' r r' p q =
    one_left p q (ap edges_say (one_edges_answer s sides order table places p.answer q.answer p.right q.right))

module _ (w : RowPairs) (s : Scene) (l : Lent) (first end : ℕ) (t t' t'' : List ℕ) (r r' : ℕ) where
  -- two right outcomes over a stretch are one: its count is
  one_said : (more : List Check) (o o' : Outcome ℕ) → Answers (row_checks s l (row_count s) first end more) (λ n. n ≡ length (rows_in w s first end)) o
      → Answers (row_checks s l (row_count s) first end more) (λ n. n ≡ length (rows_in w s first end)) o'
      → o ≡ o'
  one_said more o o' =
      one_answer (λ n. n ≡ length (rows_in w s first end)) (λ a b h k. h ∙ sym k) (row_checks s l (row_count s) first end more) o o'

  pub one_rows_counted : Left outcome_of count_left (RowsCounted w s l first end) t t' r → Left outcome_of count_left (RowsCounted w s l first end) t t'' r'
      → (r ≡ r') × (t' ≡ t'')
  one_rows_counted p q = one_left p q (one_said [] (outcome_of p.answer) (outcome_of q.answer) p.right q.right)

  pub one_rows_listed : (o o' o'' : List ℕ) → Left outcome_of count_left (RowsListed w s l first end o o') t t' r
      → Left outcome_of count_left (RowsListed w s l first end o o'') t t'' r'
      → ((r ≡ r') × (t' ≡ t'')) × (o' ≡ o'')
  one_rows_listed o o' o'' p q =
      let same : outcome_of p.answer ≡ outcome_of q.answer =
      one_said (room_check (length o) (length (rows_in w s first end)) ∷ []) (outcome_of p.answer) (outcome_of q.answer) p.right.answer q.right.answer in (
        one_left p q same,
        p.right.list ∙ ap (λ (a : Outcome ℕ). leaves a (mesh_entries (rows_in w s first end)) o) same ∙ sym q.right.list,
      )

  pub one_rows_settled : (o o' o'' b b' b'' : List ℕ) → Left outcome_of count_left (RowsSettled w s l first end o o' b b') t t' r
      → Left outcome_of count_left (RowsSettled w s l first end o o'' b b'') t t'' r'
      → ((r ≡ r') × (t' ≡ t'')) × (o' ≡ o'') × (b' ≡ b'')
  one_rows_settled o o' o'' b b' b'' p q =
      let same : outcome_of p.answer ≡ outcome_of q.answer =
      one_said (room_check (min (length o) (length b)) (length (rows_in w s first end)) ∷ []) (outcome_of p.answer) (outcome_of q.answer)
      p.right.answer
      q.right.answer in
      let words : p.right.words ≡ q.right.words =
      all_judged_one s (rows_in w s first end) p.right.words q.right.words p.right.right q.right.right in (
        one_left p q same,
        p.right.list ∙ ap (λ (a : Outcome ℕ). leaves a (mesh_entries (rows_in w s first end)) o) same ∙ sym q.right.list,
        p.right.bytes ∙ (λ i. leaves (same i) (map byte_of (words i)) b) ∙ sym q.right.bytes,
      )

  pub one_rows_contacts : (o o' o'' b b' b'' c c' c'' : List ℕ) → Left outcome_of count_left (RowsContacts w s l first end o o' b b' c c') t t' r
      → Left outcome_of count_left (RowsContacts w s l first end o o'' b b'' c c'') t t'' r'
      → ((r ≡ r') × (t' ≡ t'')) × (o' ≡ o'') × (b' ≡ b'') × (c' ≡ c'')
  one_rows_contacts o o' o'' b b' b'' c c' c'' p q =
      let same : outcome_of p.answer ≡ outcome_of q.answer =
      one_said (range_check s ∷ room_check (contact_room o b c) (length (rows_in w s first end)) ∷ []) (outcome_of p.answer) (outcome_of q.answer)
      p.right.answer
      q.right.answer in
      let met : p.right.contacts ≡ q.right.contacts =
      all_met_one s (rows_in w s first end) p.right.contacts p.right.right
      ∙ sym (all_met_one s (rows_in w s first end) q.right.contacts q.right.right) in (
        one_left p q same,
        p.right.list ∙ ap (λ (a : Outcome ℕ). leaves a (mesh_entries (rows_in w s first end)) o) same ∙ sym q.right.list,
        p.right.bytes ∙ (λ i. leaves (same i) (map (λ (m : WholeContact). byte_of (word_of m)) (met i)) b) ∙ sym q.right.bytes,
        p.right.rows ∙ (λ i. rows_after (same i) (met i) c) ∙ sym q.right.rows,
      )

-- two right outcomes of one count of what is kept are one
one_kept_said : (t : KeptRows) (checks : List Check) (o o' : Outcome KeptRows) → Answers checks (λ u. u ≡ t) o → Answers checks (λ u. u ≡ t) o' → o ≡ o'
one_kept_said t checks o o' = one_answer (λ u. u ≡ t) (λ a b h k. h ∙ sym k) checks o o'

pub one_rows_kept : (w : RowPairs) (m : Wanted) (s : Scene) (l : Lent) (first end : ℕ) (o o' o'' b b' b'' t t' t'' : List ℕ) (r r' : ℕ)
    → Left outcome_of kept_left (RowsKept w m s l first end o o' b b') t t' r
    → Left outcome_of kept_left (RowsKept w m s l first end o o'' b b'') t t'' r'
    → ((r ≡ r') × (t' ≡ t'')) × (o' ≡ o'') × (b' ≡ b'')
one_rows_kept w m s l first end o o' o'' b b' b'' t t' t'' r r' p q =
    let words : p.right.words ≡ q.right.words =
    all_judged_one s (rows_in w s first end) p.right.words q.right.words p.right.right q.right.right in
    let same : outcome_of p.answer ≡ outcome_of q.answer =
    one_kept_said (kept_told m q.right.words) _ (outcome_of p.answer) (outcome_of q.answer) (rw words at p.right.answer) q.right.answer in (
      one_left p q same,
      p.right.list ∙ (λ i. leaves (same i) (mesh_entries (kept m (words i) (rows_in w s first end))) o) ∙ sym q.right.list,
      p.right.bytes ∙ (λ i. leaves (same i) (map byte_of (kept m (words i) (words i))) b) ∙ sym q.right.bytes,
    )

pub one_contacts_kept : (w : RowPairs) (m : Wanted) (s : Scene) (l : Lent) (first end : ℕ) (o o' o'' b b' b'' c c' c'' t t' t'' : List ℕ) (r r' : ℕ)
    → Left outcome_of kept_left (ContactsKept w m s l first end o o' b b' c c') t t' r
    → Left outcome_of kept_left (ContactsKept w m s l first end o o'' b b'' c c'') t t'' r'
    → ((r ≡ r') × (t' ≡ t'')) × (o' ≡ o'') × (b' ≡ b'') × (c' ≡ c'')
one_contacts_kept w m s l first end o o' o'' b b' b'' c c' c'' t t' t'' r r' p q =
    let words : p.right.words ≡ q.right.words =
    all_judged_one s (rows_in w s first end) p.right.words q.right.words p.right.right q.right.right in
    let same : outcome_of p.answer ≡ outcome_of q.answer =
    one_kept_said (kept_told m q.right.words) _ (outcome_of p.answer) (outcome_of q.answer) (rw words at p.right.answer) q.right.answer in
    let met : p.right.contacts ≡ q.right.contacts =
    all_met_one s (kept m p.right.words (rows_in w s first end)) p.right.contacts p.right.met
    ∙ ap (λ (ws : List Settled). contacts_of s (kept m ws (rows_in w s first end))) words
    ∙ sym (all_met_one s (kept m q.right.words (rows_in w s first end)) q.right.contacts q.right.met) in (
      one_left p q same,
      p.right.list ∙ (λ i. leaves (same i) (mesh_entries (kept m (words i) (rows_in w s first end))) o) ∙ sym q.right.list,
      p.right.bytes ∙ (λ i. leaves (same i) (map byte_of (kept m (words i) (words i))) b) ∙ sym q.right.bytes,
      p.right.rows ∙ (λ i. rows_after (same i) (met i) c) ∙ sym q.right.rows,
    )

pub one_pierced_rows : (f : Frame) (s : Scene) (l : Lent) (first end : ℕ) (o o' o'' t t' t'' : List ℕ) (r r' : ℕ)
    → Left outcome_of count_left (PiercedListed f s l first end o o') t t' r
    → Left outcome_of count_left (PiercedListed f s l first end o o'') t t'' r'
    → ((r ≡ r') × (t' ≡ t'')) × (o' ≡ o'')
one_pierced_rows f s l first end o o' o'' t t' t'' r r' p q =
    let (same, lists) = one_pierced_listing f s l first end o p.right q.right in
    (one_left p q (ap outcome_of same), lists)

pub one_pierced_told : (s : Scene) (f : Frame) (i j r r' : ℕ) → Numbered (λ a. number_for answer_byte (outcome_alone a)) (PiercedDecided s f i j) r
    → Numbered (λ a. number_for answer_byte (outcome_alone a)) (PiercedDecided s f i j) r'
    → r ≡ r'
one_pierced_told s f i j r r' p q =
    p.is ∙ ap (λ a. number_for answer_byte (outcome_alone a)) (one_pierced_answer s f i j p.answer q.answer p.right q.right) ∙ sym q.is
