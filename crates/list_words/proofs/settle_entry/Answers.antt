-- `settle_entry`: the entry is taken apart, and its pair is judged.
use mathlib.Core.Path.{◌∙◌}
use lib.ListN.{get_or}
use Rattle.meaning.specs.List.{pair}
use Rattle.list_words.specs.Listed.{entry_there, entry_byte}
use Rattle.list_words.proofs.settle_entry.Goals as goal

pub pair-requires : goal.pair-requires
pair-requires c =
    let start = c in
    let p = start.requires in
    (p.0, entry_there _ (get_or start.args.list.now start.args.k 0) (pair c.kind_of-kind.result c.first_of-first.result c.second_of-second.result) c.kind_of-kind.ensures c.first_of-first.ensures c.second_of-second.ensures p.2)

pub returns : goal.returns
returns c =
    let start = c in
    c.byte_of.ensures ∙ entry_byte _ (get_or start.args.list.now start.args.k 0) (pair c.kind_of-kind.result c.first_of-first.result c.second_of-second.result) c.kind_of-kind.ensures c.first_of-first.ensures c.second_of-second.ensures c.pair.result c.pair.ensures
