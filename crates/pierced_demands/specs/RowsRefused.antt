-- Demand 1 for rows of edges: the rows of the table, when the count is given, and that a refusal changes no number of the list. And one result, with whatever
-- orders, as long as they are taken.
use Rattle.std.specs.Prelude.{ℕ, List, [], ◌∷◌, ◌≡◌, length, Result}
use Rattle.std.proofs.Math.Path.{sym, ap}
use Rattle.std.proofs.Common.{◌∙◌}
use Rattle.meaning.specs.Scene.{Scene, edge_count}
use Rattle.meaning.specs.Refusals.{Outcome, room_check, outcome_of}
use Rattle.meaning.specs.List.{leaves}
use Rattle.meaning.specs.MeshRows.{Lent}
use Rattle.meaning.specs.PiercedRows.{through_rows, yes_of, PiercedListed}
use Rattle.meaning.specs.declared.Frame.{Frame}
use Rattle.through_laws.specs.Listing.{entries_of, count_of}
use Rattle.pierced_rows.specs.OneResult.{answer_told, list_told, one_pierced_listing}
use Rattle.rows_demands.specs.Refused.{RoomTable, room_table}
use Rattle.rows_demands.specs.Demand1.{AsDemanded, Equals}
use Rattle.rows_demands.specs.AnyLent.{Taken}
use Rattle.rows_demands.proofs.AnyLent.{as_lent}
use Rattle.meaning.specs.declared.Refused.{Refused}

module _ (f : Frame) (s : Scene) (l : Lent) (first end : ℕ) where
  abbrev Count : ℕ
  Count = count_of f s (through_rows f s first end)

  pub demand1_pierced_rows : (o o' : List ℕ) (r : Result ℕ Refused) → PiercedListed f s l first end o o' r
      → AsDemanded (RoomTable (Equals Count) s l (edge_count s) first end (length o) Count) (o' ≡ o) (outcome_of r)
  unfolding leaves
  demand1_pierced_rows o o' r p =
      record {
        table =
            room_table (Equals Count) (λ a b h k. h ∙ sym k) s l (edge_count s) first end (outcome_of r) (length o) Count
            (answer_told f s l first end o p);
        unchanged = λ n c e.
            list_told f s l first end o p ∙ ap (λ (y : Outcome ℕ). leaves y (entries_of f s (through_rows f s first end)) o) e;
      }

-- two calls with other orders, or with none: one result, refused calls too
pub pierced_alike : (f : Frame) (s : Scene) (l l' : Lent) → Taken s l → Taken s l' → (first end : ℕ) (o o' o'' : List ℕ) (r r' : Result ℕ Refused)
    → PiercedListed f s l first end o o' r → PiercedListed f s l' first end o o'' r' → (r ≡ r') × (o' ≡ o'')
pierced_alike f s l l' here there first end o o' o'' r r' p q =
    one_pierced_listing f s l first end o p
    (record {
      answers = q.answers;
      right = q.right;
      answer =
          as_lent s l l' here there first end (λ n. n ≡ length (yes_of q.answers q.answers)) (edge_count s)
          (room_check (length o) (length (yes_of q.answers q.answers)) ∷ []) (outcome_of r') q.answer;
      list = q.list;
    })
