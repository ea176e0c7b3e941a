-- Two calls over stretches of rows that are the same, where what decides in the one decides in the other, have one result: the answer with its count, and
-- every lent number but the scratch. So it is with orders that are taken (`AnyLent`), and with the parts of the rows' own kind alone (`OneKind`).
use Rattle.std.specs.Prelude.{ℕ, min, Bool, true, false, ◌≡◌, length, Result}
use mathlib.Core.List.Memᴰ
use mathlib.Core.List.{List, [], ◌∷◌, Memᴰ}
use Rattle.std.proofs.Common.{⊎_elim, sym, ap, ◌∙◌, subst}
use Rattle.sequences.specs.Pick.{pick}
use Rattle.meaning.specs.Scene.{Scene}
use Rattle.meaning.specs.Refusals.{Outcome, Check, Answers, room_check, outcome_of}
use Rattle.meaning.specs.List.{Pair, leaves}
use Rattle.meaning.specs.SceneWords.{AllSettled}
use Rattle.meaning.specs.WholeContacts.{AllContacts, range_check, contact_room}
use Rattle.meaning.specs.MeshRows.{Lent, row_count, rows_in, mesh_entries, row_checks}
use Rattle.meaning.specs.MeshRows.{RowsCounted, RowsListed, RowsSettled, RowsContacts, wants_word, kept, kept_told, RowsKept, ContactsKept}
use Rattle.meaning.specs.declared.RowPairs.{RowPairs}
use Rattle.meaning.specs.declared.Settled.{Settled}
use Rattle.meaning.specs.declared.Wanted.{Wanted}
use Rattle.rows_demands.specs.OfKind.{turned, AllSame, same_words, same_contacts, SameRows}
use Rattle.rows_demands.specs.OneResult.{one_counting, one_listing, one_settling, one_meeting, one_keeping, one_kept_meeting}
use Rattle.meaning.specs.declared.Refused.{Refused}
use Rattle.meaning.specs.declared.KeptRows.{KeptRows}

-- whatever comes behind what every call asks first: where it decides in the one, it decides in the other
pub record Carry (s s' : Scene) (l l' : Lent) (first end : ℕ) : Type 1 where
  pub over : {A : Type 0} (R : A → Type 0) (more : List Check) (o : Outcome A) → Answers (row_checks s' l' (row_count s') first end more) R o
      → Answers (row_checks s l (row_count s) first end more) R o

in_kept : (m : Wanted) (ws : List Settled) (l : List Pair) (p : Pair) → Memᴰ p (kept m ws l) → Memᴰ p l
unfolding kept
in_kept m [] l p h = absurd (Memᴰ.not-nil h)
in_kept m (v ∷ ws) [] p h = h
in_kept m (v ∷ ws) (q ∷ l) p h = by (wants_word m v) h (in_kept m ws l p)
  where
    by : (b : Bool) → Memᴰ p (pick b (q ∷ kept m ws l) (kept m ws l)) → (Memᴰ p (kept m ws l) → Memᴰ p l) → Memᴰ p (q ∷ l)
    by true n rest = ⊎_elim (λ here. Memᴰ.head here) (λ later. Memᴰ.tail (rest later)) (Memᴰ.cases_cons n)
    by false n rest = Memᴰ.tail (rest n)

module _ {w : RowPairs} {s s' : Scene} {first end : ℕ} (same : SameRows w s s' first end) {l l' : Lent}
    (carry : Carry s s' l l' first end) where
  back : AllSame s' s (rows_in w s first end)
  back p m = turned (same.pieces p m)

  -- what decides in the one decides in the other
  decided : {A : Type 0} (more : List Pair → List Check) (R : List Pair → A → Type 0) (o : Outcome A)
      → Answers (row_checks s' l' (row_count s') first end (more (rows_in w s' first end))) (R (rows_in w s' first end)) o
      → Answers (row_checks s l (row_count s) first end (more (rows_in w s first end))) (R (rows_in w s first end)) o
  decided more R o p =
      subst (λ (ps : List Pair). Answers (row_checks s l (row_count s) first end (more ps)) (R ps) o) (sym same.pairs)
      (carry.over (R (rows_in w s' first end)) (more (rows_in w s' first end)) o p)

  left : {A : Type 0} (o : Outcome A) (list list' : List ℕ) (of : List Pair → List Pair)
      → list' ≡ leaves o (mesh_entries (of (rows_in w s' first end))) list
      → list' ≡ leaves o (mesh_entries (of (rows_in w s first end))) list
  left o list list' of e = e ∙ ap (λ (ps : List Pair). leaves o (mesh_entries (of ps)) list) (sym same.pairs)

  judged : (ws : List Settled) → AllSettled s' (rows_in w s' first end) ws → AllSettled s (rows_in w s first end) ws
  judged ws h =
      same_words (rows_in w s first end) ws back (subst (λ (ps : List Pair). AllSettled s' ps ws) (sym same.pairs) h)

  pub carried_counted : (r r' : Result ℕ Refused) → RowsCounted w s l first end r → RowsCounted w s' l' first end r' → r ≡ r'
  carried_counted r r' p q =
      one_counting w s l first end r r' p (decided (λ ps. []) (λ ps n. n ≡ length ps) (outcome_of r') q)

  pub carried_listed : (o o' o'' : List ℕ) (r r' : Result ℕ Refused) → RowsListed w s l first end o o' r → RowsListed w s' l' first end o o'' r'
      → (r ≡ r') × (o' ≡ o'')
  carried_listed o o' o'' r r' p q =
      one_listing w s l first end o o' o'' r r' p
      (record {
        answer = decided (λ ps. room_check (length o) (length ps) ∷ []) (λ ps n. n ≡ length ps) (outcome_of r') q.answer;
        list = left (outcome_of r') o o'' (λ ps. ps) q.list;
      })

  pub carried_settled : (o o' o'' b b' b'' : List ℕ) (r r' : Result ℕ Refused) → RowsSettled w s l first end o o' b b' r
      → RowsSettled w s' l' first end o o'' b b'' r' → (r ≡ r') × (o' ≡ o'') × (b' ≡ b'')
  carried_settled o o' o'' b b' b'' r r' p q =
      one_settling w s l first end o o' o'' b b' b'' r r' p
      (record {
        answer = decided (λ ps. room_check (min (length o) (length b)) (length ps) ∷ []) (λ ps n. n ≡ length ps) (outcome_of r') q.answer;
        list = left (outcome_of r') o o'' (λ ps. ps) q.list;
        words = q.words;
        right = judged q.words q.right;
        bytes = q.bytes;
      })

  -- 16 goes by the positions, and these are the same
  abbrev range : Bool → Check
  range b = record { number = 16; holds = b; carries = 0 }

  pub carried_contacts : (o o' o'' b b' b'' c c' c'' : List ℕ) (r r' : Result ℕ Refused) → RowsContacts w s l first end o o' b b' c c' r
      → RowsContacts w s' l' first end o o'' b b'' c c'' r' → (r ≡ r') × (o' ≡ o'') × (b' ≡ b'') × (c' ≡ c'')
  carried_contacts o o' o'' b b' b'' c c' c'' r r' p q =
      one_meeting w s l first end o o' o'' b b' b'' c c' c'' r r' p
      (record {
        answer =
            subst
            (λ (far : Bool). Answers (row_checks s l (row_count s) first end (range far ∷ room_check (contact_room o b c) (length (rows_in w s first end)) ∷ []))
            (λ n. n ≡ length (rows_in w s first end)) (outcome_of r'))
            (sym same.reach)
            (decided (λ ps. range_check s' ∷ room_check (contact_room o b c) (length ps) ∷ []) (λ ps n. n ≡ length ps) (outcome_of r') q.answer);
        list = left (outcome_of r') o o'' (λ ps. ps) q.list;
        contacts = q.contacts;
        right =
            same_contacts (rows_in w s first end) q.contacts back
            (subst (λ (ps : List Pair). AllContacts s' ps q.contacts) (sym same.pairs) q.right);
        bytes = q.bytes;
        rows = q.rows;
      })

  module _ (m : Wanted) where
    pub carried_kept : (o o' o'' b b' b'' : List ℕ) (r r' : Result KeptRows Refused) → RowsKept w m s l first end o o' b b' r
        → RowsKept w m s' l' first end o o'' b b'' r' → (r ≡ r') × (o' ≡ o'') × (b' ≡ b'')
    carried_kept o o' o'' b b' b'' r r' p q =
        one_keeping w m s l first end o o' o'' b b' b'' r r' p
        (record {
          words = q.words;
          right = judged q.words q.right;
          answer =
              decided (λ ps. room_check (min (length o) (length b)) (length (kept m q.words q.words)) ∷ []) (λ ps t. t ≡ kept_told m q.words) (outcome_of r')
              q.answer;
          list = left (outcome_of r') o o'' (kept m q.words) q.list;
          bytes = q.bytes;
        })

    pub carried_kept_contacts : (o o' o'' b b' b'' c c' c'' : List ℕ) (r r' : Result KeptRows Refused) → ContactsKept w m s l first end o o' b b' c c' r
        → ContactsKept w m s' l' first end o o'' b b'' c c'' r' → (r ≡ r') × (o' ≡ o'') × (b' ≡ b'') × (c' ≡ c'')
    carried_kept_contacts o o' o'' b b' b'' c c' c'' r r' p q =
        let room = room_check (contact_room o b c) (length (kept m q.words q.words)) in
        let mine = kept m q.words (rows_in w s first end) in
        one_kept_meeting w m s l first end o o' o'' b b' b'' c c' c'' r r' p
        (record {
          words = q.words;
          right = judged q.words q.right;
          answer =
              subst
              (λ (far : Bool). Answers (row_checks s l (row_count s) first end (range far ∷ room ∷ [])) (λ t. t ≡ kept_told m q.words) (outcome_of r'))
              (sym same.reach)
              (decided (λ ps. range_check s' ∷ room ∷ []) (λ ps t. t ≡ kept_told m q.words) (outcome_of r') q.answer);
          list = left (outcome_of r') o o'' (kept m q.words) q.list;
          bytes = q.bytes;
          contacts = q.contacts;
          met =
              same_contacts mine q.contacts (λ x n. back x (in_kept m q.words (rows_in w s first end) x n))
              (subst (λ (ps : List Pair). AllContacts s' (kept m q.words ps) q.contacts) (sym same.pairs) q.met);
          rows = q.rows;
        })
