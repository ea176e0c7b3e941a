-- `entry_missing`: the entry is taken apart, and its parts are looked for.
use Rattle.meaning.specs.List.{pair}
use Rattle.own_words.specs.Faults.{missing_is}
use Rattle.own_words.proofs.entry_missing.Goals as goal

pub returns : goal.returns
returns c w = missing_is _ c.args.entry (pair c.kind_of.result c.first_of.result c.second_of.result) c.kind_of.ensures c.first_of.ensures c.second_of.ensures _ (c.not_there-missing.ensures w)
