-- An entry of a mesh's list is taken apart here and nowhere else: its kind and its two places; and that a list of entries tells its pairs.
use Rattle.std.specs.Prelude.{ℕ, ◌<◌, ◌≡◌, length, get_or}
use mathlib.Core.List.{List, Memᴰ}
use Rattle.std.proofs.Common.{ap, ◌∙◌, arith}
use Rattle.std.proofs.lemmas.List.{length-map}
use Rattle.sequences.specs.Mapped.{map_at}
use Rattle.sequences.specs.Rising.{at_place}
use Rattle.sequences.specs.Wrote.{written, written_in_front}
use Rattle.meaning.specs.List.{Pair}
use Rattle.meaning.specs.MeshRows.{mesh_number, mesh_entries}
use Rattle.meaning.specs.declared.Kind.{Kind}
use Rattle.mesh_laws.specs.Entries.{mesh_pair_of, mesh_number_back, Within}

abbrev pub mesh_kind_of : ℕ → Kind
mesh_kind_of n = (mesh_pair_of n).kind

abbrev pub mesh_first_of : ℕ → ℕ
mesh_first_of n = (mesh_pair_of n).first

abbrev pub mesh_second_of : ℕ → ℕ
mesh_second_of n = (mesh_pair_of n).second

pub mesh_entries_length : (ps : List Pair) → length (mesh_entries ps) ≡ length ps
mesh_entries_length ps = length-map ps mesh_number

abbrev pub AllWithin : List Pair → Type 0
AllWithin ps = (p : Pair) → Memᴰ p ps → Within p

-- the pair of an entry in front of a lent list is the one that was entered there
pub mesh_written_at : (ps : List Pair) (o : List ℕ) → AllWithin ps → (k : ℕ) (d : Pair) → k < length ps
    → mesh_pair_of (get_or (written (mesh_entries ps) o) k 0) ≡ get_or ps k d
mesh_written_at ps o all k d h =
    ap mesh_pair_of (written_in_front (mesh_entries ps) o k 0 (omega (arith, mesh_entries_length ps)) ∙ map_at mesh_number ps k d 0 h)
    ∙ mesh_number_back (get_or ps k d) (all (get_or ps k d) (at_place ps k d h))
