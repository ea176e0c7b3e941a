-- `keep_entry`: the entry is taken apart, and its pair is judged.
use native.Mathlib.Omega.{arith}
use mathlib.Core.Path.{◌≡◌}
use Rattle.meaning.specs.List.{pair}
use Rattle.mesh_words.specs.Asked.{mesh_pair_at, entry_there}
use Rattle.mesh_keep.specs.Entries.{entry_kept}
use Rattle.mesh_keep.proofs.keep_entry.Goals as goal

pub keep_pair-requires : goal.keep_pair-requires
keep_pair-requires c =
    let start = c in
    let e = start.requires.sound.1 in
    let q = mesh_pair_at start.args.entries.now start.args.k in
    let first : c.first_of-first.result ≡ q.first = c.first_of-first.ensures in
    let second : c.second_of-second.result ≡ q.second = c.second_of-second.ensures in record { sound = (start.requires.sound.0, entry_there _ q (pair c.kind_of-kind.result c.first_of-first.result c.second_of-second.result) c.kind_of-kind.ensures first second e.there, omega (arith, first, e.narrow.first_few), omega (arith, second, e.narrow.second_few)); most_in_bounds = (start.requires.most_in_bounds.0, start.requires.most_in_bounds.1, start.requires.most_in_bounds.2) }

pub returns : goal.returns
returns c =
    let start = c in
    entry_kept (mesh_pair_at start.args.entries.now start.args.k) (pair c.kind_of-kind.result c.first_of-first.result c.second_of-second.result) c.kind_of-kind.ensures c.first_of-first.ensures c.second_of-second.ensures c.keep_pair.ensures
