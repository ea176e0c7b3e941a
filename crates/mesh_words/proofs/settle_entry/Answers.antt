-- `settle_entry`: the entry is taken apart, and its pair is judged.
use borrow.Author.Rules.{rules}
use mathlib.Core.Path.{◌∙◌}
use Rattle.meaning.specs.List.{pair}
use Rattle.mesh_words.specs.Asked.{mesh_pair_at, entry_there, entry_byte}
use Rattle.mesh_words.proofs.settle_entry.Goals as goal

pub word-requires : goal.word-requires
word-requires c =
    let start = c in
    let p = start.requires in
    (p.0, entry_there _ (mesh_pair_at start.args.list.now start.args.k) (pair c.kind_of-kind.result c.first_of-first.result c.second_of-second.result) c.kind_of-kind.ensures c.first_of-first.ensures c.second_of-second.ensures p.2)

pub returns : goal.returns
returns c =
    let start = c in
    c.byte_of.ensures ∙ entry_byte _ (mesh_pair_at start.args.list.now start.args.k) (pair c.kind_of-kind.result c.first_of-first.result c.second_of-second.result) c.kind_of-kind.ensures c.first_of-first.ensures c.second_of-second.ensures c.word.result c.word.ensures
