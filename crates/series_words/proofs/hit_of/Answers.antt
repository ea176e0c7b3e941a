use Rattle.meaning.specs.List.{pair}
use Rattle.meaning.specs.Series.{hit_at}
use Rattle.series_words.proofs.hit_of.Goals as goal

pub returns : goal.returns
returns c =
    let kind = c.kind_of.ensures in
    let first = c.first_of.ensures in
    let second = c.second_of.ensures in
    λ t. hit_at c.args.step (pair (kind t) (first t) (second t))
