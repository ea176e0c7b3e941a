-- Demand 3 for rows of edges: of two meshes of which one is the other sent through a matrix and shifted, the same edges are through the same triangles, so
-- that two calls that are not refused write the same list, though other boxes meet.
use Rattle.std.specs.Prelude.{ℕ, ◌≤◌, ◌<◌, Bool, not, ◌&&◌, ◌↔◌, ◌≡◌, Ok}
use Rattle.std.proofs.Common.{arith, ap, ◌∙◌}
use Rattle.std.proofs.Math.Bool.{true, false}
use mathlib.Core.List.{List, []}
use Rattle.std.proofs.Math.Path.{sym}
use Rattle.sequences.specs.Chosen.{one, chosen}
use Rattle.sequences.specs.Gather.{gather_same}
use Rattle.sequences.specs.Wrote.{written}
use Rattle.whole.specs.Vector.{Vector}
use Rattle.whole.specs.VectorLaws.{Matrix}
use Rattle.meaning.specs.Scene.{Scene, scene_of, vertex_count, edge_count, triangle_count}
use Rattle.meaning.specs.Refusals.{shares, outcome_of}
use Rattle.meaning.specs.List.{leaves}
use Rattle.meaning.specs.MeshRows.{Lent}
use Rattle.meaning.specs.Pierced.{Pierced, PiercedIs, end_is_corner}
use Rattle.meaning.specs.PiercedRows.{through_row, through_rows, PiercedListed}
use Rattle.meaning.specs.declared.Frame.{Frame}
use Rattle.theory.specs.Bounds.{Every}
use Rattle.theory.specs.Moved.{Moves}
use Rattle.theory.specs.Written.{ends_written, corners_written}
use Rattle.scene_checks.specs.Facts.{Sound}
use Rattle.mesh_checks.specs.Meshes.{AcceptedMesh}
use Rattle.mesh_check_laws.specs.Facts.{mesh_sound}
use Rattle.pierced_laws.specs.Kept.{moved_keeps_pierced}
use Rattle.through_laws.specs.Deciding.{is_pierced, is_pierced_lem, found_pierced}
use Rattle.through_laws.specs.Listing.{entry_of, entries_of, rows_entries}
use Rattle.through_laws.specs.Members.{row_passes}
use Rattle.pierced_rows.specs.OneResult.{list_told}

module _ {m : Matrix} {a b : Vector} {s t : Scene} (moves : Moves m a b s t) (sound : Sound s) (f : Frame) where
  goes_over : (i j : ℕ) (r : Bool) → Pierced s f i j ↔ Pierced t f i j → PiercedIs s f i j r → PiercedIs t f i j r
  unfolding PiercedIs
  goes_over i j true h p = h.0 p
  goes_over i j false h n = λ p. n (h.1 p)

  same_pierced : (i j : ℕ) → i < edge_count s → j < triangle_count s → is_pierced f s i j ≡ is_pierced f t i j
  same_pierced i j h k =
      let ends : Every (λ v. v < vertex_count s) (ends_written s i) =
      (sound.ends i 0 h (omega arith), (sound.ends i 1 h (omega arith), tt)) in
      let corners : Every (λ v. v < vertex_count s) (corners_written s j) =
      (sound.corners j 0 k (omega arith), (sound.corners j 1 k (omega arith), (sound.corners j 2 k (omega arith), tt))) in
      found_pierced t f i j (goes_over i j (is_pierced f s i j) (moved_keeps_pierced moves f i j ends corners) (is_pierced_lem s f i j))

  same_shared : (i j : ℕ) → end_is_corner s i j ≡ end_is_corner t i j
  unfolding shares
  same_shared i j = sym (λ k. end_is_corner (scene_of [] (moves.edges k) (moves.triangles k) (moves.seams k)) i j)

  same_row : (i : ℕ) → i < edge_count s → entries_of f s (through_row f s i) ≡ entries_of f t (through_row f t i)
  same_row i h =
      row_passes f s i
      ∙ gather_same
      (λ j. one (not (end_is_corner s i j) && is_pierced f s i j) (entry_of i j))
      (λ j. one (not (end_is_corner t i j) && is_pierced f t i j) (entry_of i j))
      0 (triangle_count s)
      (λ j low there.
      let shared = same_shared i j in
      let word = same_pierced i j h there in
      λ k. one (not (shared k) && word k) (entry_of i j))
      ∙ ap (chosen (λ j. not (end_is_corner t i j) && is_pierced f t i j) (entry_of i) 0) (sym (λ k. triangle_count (scene_of [] [] (moves.triangles k) [])))
      ∙ sym (row_passes f t i)

  -- the same entries of the same rows
  pub sent_rows : (first end : ℕ) → end ≤ edge_count s → entries_of f s (through_rows f s first end) ≡ entries_of f t (through_rows f t first end)
  sent_rows first end h =
      sym (rows_entries f s first end)
      ∙ gather_same (λ i. entries_of f s (through_row f s i)) (λ i. entries_of f t (through_row f t i)) first end (λ i low below. same_row i (omega arith))
      ∙ rows_entries f t first end

-- two calls that give a count write the same list
pub demand3_pierced_rows : {m : Matrix} {a b : Vector} {s t : Scene} → Moves m a b s t → AcceptedMesh s → (f : Frame) (first end : ℕ) → end ≤ edge_count s
    → (k l : Lent) (o o₁ o₂ : List ℕ) (x y : ℕ) → PiercedListed f s k first end o o₁ (Ok x)
    → PiercedListed f t l first end o o₂ (Ok y) → o₁ ≡ o₂
unfolding outcome_of leaves
demand3_pierced_rows {s = s} {t = t} moves accepted f first end h k l o o₁ o₂ x y p q =
    list_told f s k first end o p
    ∙ ap (λ (n : List ℕ). written n o) (sent_rows moves (mesh_sound accepted) f first end h)
    ∙ sym (list_told f t l first end o q)
