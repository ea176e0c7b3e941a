-- The list of a stretch of rows, counted first, and entered where there is room for all of it.
use Rattle.std.specs.Prelude.{ℕ, ◌≤◌, ◌<◌, ◌≡◌, refl, length, Err, Ok, Result}
use mathlib.Core.List.{List, [], ◌∷◌}
use Rattle.std.proofs.Common.{ap, arith, lt-ltb, le-ltb}
use Rattle.sequences.specs.Wrote.{written, wrote_front}
use Rattle.meaning.specs.Scene.{Scene}
use Rattle.meaning.specs.Refusals.{given, refused, number_of, room_check, Answers, carrying, outcome_of}
use Rattle.meaning.specs.List.{Pair, leaves}
use Rattle.meaning.specs.MeshRows.{mesh_entries, rows_in}
use Rattle.meaning.specs.declared.Refusal.TheVariants.{NoRoom}
use Rattle.meaning.specs.declared.RowPairs.{RowPairs}
use Rattle.answers.specs.Answering.{refuses, lets_pass, gives}
use Rattle.mesh_entries.specs.Telling.{mesh_entries_length}
use Rattle.mesh_entries.specs.Entering.{Entered, entered_wrote}
use Rattle.meaning.specs.declared.Refused.{Refused}

-- an answer gives the count of the stretch's pairs
abbrev pub IsRowCount : RowPairs → Scene → ℕ → ℕ → ℕ → Type 0
IsRowCount w s a b n = n ≡ length (rows_in w s a b)

-- the list of a stretch is made in a lent list that held o and holds o', if there is room for it; 7 else
pub record StretchListed (w : RowPairs) (s : Scene) (a b room : ℕ) (o o' : List ℕ) (r : Result ℕ Refused) : Type 0 where
  pub answer : Answers (room_check room (length (rows_in w s a b)) ∷ []) (IsRowCount w s a b) (outcome_of r)
  pub list : o' ≡ leaves (outcome_of r) (mesh_entries (rows_in w s a b)) o

-- all that were walked are counted
pub walked_count : {most n : ℕ} {o o' : List ℕ} (ps : List Pair) → Entered most o 0 (mesh_entries ps) o' n → n ≡ length ps
walked_count ps w = omega (arith, w.counts, mesh_entries_length ps)

-- and entered where there is room for them
pub walked_list : {most n : ℕ} {o o' : List ℕ} (ps : List Pair) → length ps ≤ most → most ≤ length o → Entered most o 0 (mesh_entries ps) o' n
    → o' ≡ written (mesh_entries ps) o
walked_list ps fits room w = wrote_front (entered_wrote (omega (arith, walked_count ps w)) room w)

module _ (w : RowPairs) (s : Scene) (a b room : ℕ) {n : ℕ} (counted : IsRowCount w s a b n) (o : List ℕ) where
  pub stretch_refused : room < n → StretchListed w s a b room o o (Err (carrying NoRoom n))
  unfolding outcome_of number_of leaves
  stretch_refused h =
      record {
        answer =
            refuses (IsRowCount w s a b) _ [] (refused 7 n) (lt-ltb room (length (rows_in w s a b)) (rw counted at h)) (ap (refused 7) counted);
        list = refl;
      }

  pub stretch_listed : {o' : List ℕ} → n ≤ room → o' ≡ written (mesh_entries (rows_in w s a b)) o
      → StretchListed w s a b room o o' (Ok n)
  unfolding outcome_of leaves
  stretch_listed h e =
      record {
        answer =
            lets_pass (IsRowCount w s a b) _ [] (given n) (le-ltb room (length (rows_in w s a b)) (rw counted at h))
            (gives (IsRowCount w s a b) n counted);
        list = e;
      }
