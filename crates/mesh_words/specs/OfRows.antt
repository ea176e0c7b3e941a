-- The rows of a mesh: their pairs are listed, so they are there, and their entries are taken apart as they were made.
use Rattle.std.specs.Prelude.{ℕ, ◌≤◌, ◌<◌, false, ◌≡◌, length, take}
use mathlib.Core.List.{List, ◌++◌, map, Memᴰ}
use Rattle.std.proofs.Common.{sym, ap, ◌∙◌, subst, arith}
use Rattle.sequences.specs.Gather.{gather_from, gather_has}
use Rattle.sequences.specs.Mapped.{map_append}
use Rattle.meaning.specs.Scene.{Scene}
use Rattle.meaning.specs.Refusals.{not_there}
use Rattle.meaning.specs.List.{Pair, pair, pairs}
use Rattle.meaning.specs.SceneWords.{byte_of}
use Rattle.meaning.specs.MeshRows.{row_count, mesh_row, rows_in, mesh_entries}
use Rattle.meaning.specs.declared.Kind.{Kind}
use Rattle.meaning.specs.declared.Kind.TheVariants.{PointTriangle, EdgeEdge}
use Rattle.meaning.specs.declared.RowPairs.{RowPairs}
use Rattle.meaning.specs.declared.RowPairs.TheVariants.{Listed}
use Rattle.scene_parts.specs.There.{pt_there, ee_there}
use Rattle.list_pairs.specs.InOrder.{list_is}
use Rattle.list_words.specs.Listed.{word_of_pair, words_of, bytes_of}
use Rattle.mesh_laws.specs.Rows.{all_rows, stretches_joined}
use Rattle.mesh_laws.specs.Near.{rows_listed}
use Rattle.mesh_laws.specs.Entries.{MeshSized, Within}
use Rattle.mesh_words.specs.Asked.{PairThere, Entered}

module _ (s : Scene) where
  pub rows_of_list : (w : RowPairs) (a b : ℕ) → b ≤ row_count s → (p : Pair) → Memᴰ p (rows_in w s a b) → Memᴰ p (pairs s)
  rows_of_list w a b h p m =
      let (j, low, high, row) = gather_from (mesh_row Listed s) b a (rows_listed s w a b p m) in
      subst (Memᴰ p) (all_rows s) (gather_has (mesh_row Listed s) (row_count s) j (omega arith) row 0 (omega arith))

  -- a pair of a mesh has narrow places
  pub there_within : MeshSized s → (kind : Kind) (i j : ℕ) → not_there s kind i j ≡ false → Within (pair kind i j)
  there_within few PointTriangle i j h =
      let (p, q) = pt_there s i j h in
      record { first_few = omega (arith, few.few_vertices); second_few = omega (arith, few.few_triangles) }
  there_within few EdgeEdge i j h =
      let (p, q) = ee_there s i j h in
      record { first_few = omega (arith, few.few_edges); second_few = omega (arith, few.few_edges) }

  -- the entries of listed pairs ask for these pairs
  pub listed_entered : MeshSized s → (n : ℕ) (l : List ℕ) (ps : List Pair) → ((p : Pair) → Memᴰ p ps → Memᴰ p (pairs s))
      → n ≤ length l → take n l ≡ mesh_entries ps → Entered s n l ps
  listed_entered few n l ps listed room stand =
      let there : (p : Pair) → Memᴰ p ps → PairThere s p = λ p m. (((list_is s).stands p).0 (listed p m)).there in
      record { stand = stand; room = room; narrow = λ p m. there_within few p.kind p.first p.second (there p m); there = there }

  -- so do those of the rows of a stretch
  pub rows_entered : (w : RowPairs) → MeshSized s → (a b n : ℕ) (l : List ℕ) → b ≤ row_count s → n ≤ length l
      → take n l ≡ mesh_entries (rows_in w s a b) → Entered s n l (rows_in w s a b)
  rows_entered w few a b n l h room stand = listed_entered few n l (rows_in w s a b) (rows_of_list w a b h) room stand

  -- the words of all rows of listed pairs are those of the list, and the words of neighbouring stretches joined are those of the stretch
  pub rows_bytes : bytes_of s (rows_in Listed s 0 (row_count s)) ≡ bytes_of s (pairs s)
  rows_bytes = ap (bytes_of s) (all_rows s)

  pub bytes_joined : (w : RowPairs) (a b c : ℕ) → a ≤ b → b ≤ c
      → bytes_of s (rows_in w s a b) ++ bytes_of s (rows_in w s b c) ≡ bytes_of s (rows_in w s a c)
  bytes_joined w a b c h k =
      sym (map_append byte_of (words_of s (rows_in w s a b)) (words_of s (rows_in w s b c)))
      ∙ ap (map byte_of) (sym (map_append (word_of_pair s) (rows_in w s a b) (rows_in w s b c)))
      ∙ ap (bytes_of s) (stretches_joined w s a b c h k)
