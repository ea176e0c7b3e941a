-- A stretch of rows that was listed, and then judged by its entries: what each way out of the call gives.
use Rattle.std.specs.Prelude.{ℕ, ◌≤◌, min, ◌≡◌, ℤ, take, drop, Err, Ok, Result}
use mathlib.Core.List.{List, []}
use Rattle.std.proofs.Math.Path.{refl, ap, subst}
use Rattle.std.proofs.Common.{sym, ◌∙◌, arith, take_at}
use Rattle.std.proofs.Math.ListN.{length}
use borrow.Author.Tests.{ltb-false}
use Rattle.sequences.specs.Wrote.{written, written_length}
use Rattle.meaning.specs.Scene.{Scene}
use Rattle.meaning.specs.Refusals.{given, room_check, Answers, carrying, outcome_of}
use Rattle.meaning.specs.List.{Pair, leaves}
use Rattle.meaning.specs.MeshRows.{Lent, row_count, rows_in, mesh_entries, RowsSettled}
use Rattle.meaning.specs.declared.Refusal.{Refusal}
use Rattle.meaning.specs.declared.RowPairs.{RowPairs}
use Rattle.answers.specs.Answering.{is_given}
use Rattle.scene_checks.specs.Facts.{Sound}
use Rattle.list_words.specs.Listed.{words_of, bytes_of, all_judged}
use Rattle.mesh_laws.specs.Entries.{MeshSized}
use Rattle.mesh_check_laws.specs.Facts.{mesh_sound}
use Rattle.mesh_entries.specs.Telling.{mesh_entries_length}
use Rattle.mesh_trees.specs.Planting.{Plantable}
use Rattle.mesh_stretch.specs.Stretching.{IsRowCount, StretchListed}
use Rattle.mesh_asked.specs.Asking.{RowsAsked, refused_first, passed_first}
use Rattle.mesh_list.specs.Answering.{told_by, open_told}
use Rattle.mesh_words.specs.Asked.{mesh_pairs_in, MeshThere, Entered, entered_pairs, entered_there}
use Rattle.mesh_words.specs.OfRows.{rows_entered}
use Rattle.meaning.specs.declared.Refused.{Refused}

-- ---- a stretch that was listed

pub record RowsMade (w : RowPairs) (s : Scene) (a b room n : ℕ) (o o' : List ℕ) : Type 0 where
  pub counts : n ≡ length (rows_in w s a b)
  pub fits : length (rows_in w s a b) ≤ room
  pub list : o' ≡ written (mesh_entries (rows_in w s a b)) o

nothing_left : {A : Type 0} (R : A → Type 0) (a : A) → Answers [] R (given a) → R a
unfolding Answers
nothing_left R a h = h

module _ {w : RowPairs} {s : Scene} {a b room : ℕ} {o o' : List ℕ} {r : Result ℕ Refused} (l : StretchListed w s a b room o o' r) {m : ℕ} (e : r ≡ Ok m) where
  pub rows_made : RowsMade w s a b room m o o'
  unfolding outcome_of leaves
  rows_made =
      let k : StretchListed w s a b room o o' (Ok m) = subst (StretchListed w s a b room o o') e l in
      let (h, rest) = is_given (IsRowCount w s a b) (room_check room (length (rows_in w s a b))) [] m k.answer in
      record { counts = nothing_left (IsRowCount w s a b) m rest; fits = ltb-false room (length (rows_in w s a b)) h; list = k.list }

pub plant_sized : {s : Scene} {l : List ℤ} → Plantable s l → MeshSized s
plant_sized p = record { few_vertices = p.few_vertices; few_edges = p.few_edges; few_triangles = p.few_triangles }

module _ {w : RowPairs} {s : Scene} {a b room n : ℕ} {o o' : List ℕ} (few : MeshSized s) (within : b ≤ row_count s) (h : room ≤ length o) (made : RowsMade w s a b room n o o') where
  long : length (mesh_entries (rows_in w s a b)) ≡ n
  long = mesh_entries_length (rows_in w s a b) ∙ sym made.counts

  pub made_room : n ≤ length o'
  made_room =
      omega (arith, ap length made.list, written_length (mesh_entries (rows_in w s a b)) o (omega (arith, long, made.fits, made.counts)), long, made.counts, made.fits)

  pub made_entered : Entered s n o' (rows_in w s a b)
  made_entered =
      rows_entered s w few a b n o' within made_room
      (ap (take n) made.list ∙ take_at (mesh_entries (rows_in w s a b)) (drop (length (mesh_entries (rows_in w s a b))) o) n long)

  pub made_there : MeshThere s n o'
  made_there = entered_there made_entered

  pub made_pairs : mesh_pairs_in n o' ≡ rows_in w s a b
  made_pairs = entered_pairs made_entered

-- ---- and judged

pub record SettledThere (w : RowPairs) (s : Scene) (a b room : ℕ) (o o' c c' : List ℕ) (r : Result ℕ Refused) : Type 0 where
  pub list : StretchListed w s a b room o o' r
  pub bytes : c' ≡ leaves (outcome_of r) (bytes_of s (rows_in w s a b)) c

module _ {w : RowPairs} {s : Scene} {a b room : ℕ} {o o' : List ℕ} {r : Result ℕ Refused} (l : StretchListed w s a b room o o' r) where
  pub settled_made : {m : ℕ} {c c' : List ℕ} → MeshSized s → b ≤ row_count s → room ≤ length o → r ≡ Ok m
      → c' ≡ written (bytes_of s (mesh_pairs_in m o')) c
      → SettledThere w s a b room o o' c c' (Ok m)
  unfolding outcome_of leaves
  settled_made {m} {c} few within h e q =
      record {
        list = subst (StretchListed w s a b room o o') e l;
        bytes = q ∙ ap (λ (ps : List Pair). written (bytes_of s ps) c) (made_pairs few within h (rows_made l e));
      }

  pub settled_without : {x : Refused} {c : List ℕ} → r ≡ Err x → SettledThere w s a b room o o' c c (Err x)
  unfolding outcome_of leaves
  settled_without e = record { list = subst (StretchListed w s a b room o o') e l; bytes = refl }

-- ---- the answer of the whole call

module _ (w : RowPairs) (s : Scene) (l : Lent) (first end : ℕ) {t' : List ℕ} {asked : Result (Unit {0}) Refusal} (p : RowsAsked s l (row_count s) first end t' asked) where
  pub not_settled : (o b : List ℕ) (x : Refusal) → asked ≡ Err x
      → RowsSettled w s l first end o o b b (Err (carrying x 0))
  unfolding outcome_of leaves
  not_settled o b x e =
      record {
        answer = refused_first p (λ n. n ≡ length (rows_in w s first end)) _ x e;
        list = refl;
        words = words_of s (rows_in w s first end);
        right = all_judged s (rows_in w s first end);
        bytes = refl;
      }

  module _ (passed : asked ≡ Ok tt) where
    pub open_sound : Sound (told_by s t')
    open_sound = subst Sound (sym (open_told p passed)) (mesh_sound {s = s} (p.opened passed).accepted)

    pub settled : {o o' b b' : List ℕ} {r : Result ℕ Refused} → SettledThere w (told_by s t') first end (min (length o) (length b)) o o' b b' r
        → RowsSettled w s l first end o o' b b' r
    settled {o} {o'} {b} {b'} {r} h =
        let k = subst (λ (m : Scene). SettledThere w m first end (min (length o) (length b)) o o' b b' r) (open_told p passed) h in
        record {
          answer = passed_first p (λ n. n ≡ length (rows_in w s first end)) _ (outcome_of r) passed k.list.answer;
          list = k.list.list;
          words = words_of s (rows_in w s first end);
          right = all_judged s (rows_in w s first end);
          bytes = k.bytes;
        }
