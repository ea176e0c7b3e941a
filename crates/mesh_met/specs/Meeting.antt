-- A stretch of rows that was listed, and then judged by its entries, with the contacts of the hits: what each way out of the call gives.
use Rattle.std.specs.Prelude.{ℕ, ◌≤◌, true, false, ◌≡◌, Err, Ok, Result}
use mathlib.Core.List.{List, [], ◌∷◌}
use Rattle.std.proofs.Math.Path.{refl, ap, subst}
use Rattle.std.proofs.Common.{sym, ◌∙◌}
use Rattle.std.proofs.Math.ListN.{length}
use Rattle.sequences.specs.Wrote.{written}
use Rattle.meaning.specs.Limits.{contact_limit}
use Rattle.meaning.specs.Scene.{Scene, reaches_beyond}
use Rattle.meaning.specs.Refusals.{number_of, room_check, Answers, carrying, outcome_of}
use Rattle.meaning.specs.List.{Pair, leaves}
use Rattle.meaning.specs.WholeContacts.{range_check, contact_room, rows_left, rows_after}
use Rattle.meaning.specs.MeshRows.{Lent, row_count, rows_in, mesh_entries, RowsContacts}
use Rattle.meaning.specs.declared.Refusal.{Refusal}
use Rattle.meaning.specs.declared.Refusal.TheVariants.{BeyondOldRange}
use Rattle.meaning.specs.declared.RowPairs.{RowPairs}
use Rattle.answers.specs.Answering.{refuses, lets_pass}
use Rattle.list_words.specs.Listed.{bytes_of}
use Rattle.contact_entries.specs.Listed.{contacts_of, contact_bytes, all_met}
use Rattle.mesh_laws.specs.Entries.{MeshSized}
use Rattle.mesh_checks.specs.Meshes.{AcceptedMesh}
use Rattle.mesh_stretch.specs.Stretching.{IsRowCount, StretchListed}
use Rattle.mesh_asked.specs.Asking.{RowsAsked, refused_first, passed_first}
use Rattle.mesh_list.specs.Answering.{told_by, open_told}
use Rattle.mesh_words.specs.Asked.{mesh_pairs_in}
use Rattle.mesh_contacts.specs.Met.{contact_bytes_lem}
use Rattle.mesh_settled.specs.Settling.{rows_made, made_pairs}
use Rattle.meaning.specs.declared.Refused.{Refused}

-- ---- within the old range

pub record MetNear (w : RowPairs) (s : Scene) (a b room : ℕ) (o o' v v' c c' : List ℕ) (r : Result ℕ Refused) : Type 0 where
  pub list : StretchListed w s a b room o o' r
  pub bytes : v' ≡ leaves (outcome_of r) (contact_bytes s (rows_in w s a b)) v
  pub rows : c' ≡ rows_after (outcome_of r) (contacts_of s (rows_in w s a b)) c

module _ {w : RowPairs} {s : Scene} {a b room : ℕ} {o o' : List ℕ} {r : Result ℕ Refused} (l : StretchListed w s a b room o o' r) where
  pub met_made : {m : ℕ} {v v' c c' : List ℕ} → MeshSized s → b ≤ row_count s → room ≤ length o → r ≡ Ok m
      → v' ≡ written (bytes_of s (mesh_pairs_in m o')) v
      → c' ≡ rows_left (contacts_of s (mesh_pairs_in m o')) c
      → MetNear w s a b room o o' v v' c c' (Ok m)
  unfolding outcome_of leaves rows_after
  met_made {m} {v} {v'} {c} few within h e q k =
      let same = made_pairs few within h (rows_made l e) in
      record {
        list = subst (StretchListed w s a b room o o') e l;
        bytes =
            q ∙ ap (λ (ps : List Pair). written (bytes_of s ps) v) same
            ∙ ap (λ (n : List ℕ). written n v) (sym (contact_bytes_lem s (rows_in w s a b)));
        rows = k ∙ ap (λ (ps : List Pair). rows_left (contacts_of s ps) c) same;
      }

  pub met_without : {x : Refused} {v c : List ℕ} → r ≡ Err x → MetNear w s a b room o o' v v c c (Err x)
  unfolding outcome_of leaves rows_after
  met_without e = record { list = subst (StretchListed w s a b room o o') e l; bytes = refl; rows = refl }

-- ---- 16, then 7

pub record MetThere (w : RowPairs) (s : Scene) (a b : ℕ) (o o' v v' c c' : List ℕ) (r : Result ℕ Refused) : Type 0 where
  pub answer : Answers (range_check s ∷ room_check (contact_room o v c) (length (rows_in w s a b)) ∷ []) (IsRowCount w s a b) (outcome_of r)
  pub list : o' ≡ leaves (outcome_of r) (mesh_entries (rows_in w s a b)) o
  pub bytes : v' ≡ leaves (outcome_of r) (contact_bytes s (rows_in w s a b)) v
  pub rows : c' ≡ rows_after (outcome_of r) (contacts_of s (rows_in w s a b)) c

module _ (w : RowPairs) (s : Scene) (a b : ℕ) (o v c : List ℕ) where
  pub met_beyond : reaches_beyond contact_limit s ≡ true → MetThere w s a b o o v v c c (Err (carrying BeyondOldRange 0))
  unfolding outcome_of leaves rows_after number_of
  met_beyond h = record { answer = refuses _ _ _ _ h refl; list = refl; bytes = refl; rows = refl }

  pub met_near : {o' v' c' : List ℕ} {r : Result ℕ Refused} → reaches_beyond contact_limit s ≡ false → MetNear w s a b (contact_room o v c) o o' v v' c c' r
      → MetThere w s a b o o' v v' c c' r
  met_near h k = record { answer = lets_pass _ _ _ _ h k.list.answer; list = k.list.list; bytes = k.bytes; rows = k.rows }

-- ---- the answer of the whole call

module _ (w : RowPairs) (s : Scene) (l : Lent) (first end : ℕ) {t' : List ℕ} {asked : Result (Unit {0}) Refusal} (p : RowsAsked s l (row_count s) first end t' asked) where
  pub not_met : (o v c : List ℕ) (x : Refusal) → asked ≡ Err x
      → RowsContacts w s l first end o o v v c c (Err (carrying x 0))
  unfolding outcome_of leaves rows_after
  not_met o v c x e =
      record {
        answer = refused_first p (λ n. n ≡ length (rows_in w s first end)) _ x e;
        list = refl;
        contacts = contacts_of s (rows_in w s first end);
        right = all_met s (rows_in w s first end);
        bytes = refl;
        rows = refl;
      }

  module _ (passed : asked ≡ Ok tt) where
    pub open_accepted : AcceptedMesh (told_by s t')
    open_accepted = subst AcceptedMesh (sym (open_told p passed)) (p.opened passed).accepted

    pub met : {o o' v v' c c' : List ℕ} {r : Result ℕ Refused} → MetThere w (told_by s t') first end o o' v v' c c' r
        → RowsContacts w s l first end o o' v v' c c' r
    met {o} {o'} {v} {v'} {c} {c'} {r} h =
        let k = subst (λ (m : Scene). MetThere w m first end o o' v v' c c' r) (open_told p passed) h in
        record {
          answer = passed_first p (λ n. n ≡ length (rows_in w s first end)) _ (outcome_of r) passed k.answer;
          list = k.list;
          contacts = contacts_of s (rows_in w s first end);
          right = all_met s (rows_in w s first end);
          bytes = k.bytes;
          rows = k.rows;
        }
