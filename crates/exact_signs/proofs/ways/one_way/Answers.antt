use borrow.Author.Rules.{rules}
use Rattle.exact_signs.specs.OneWay.{one_way}
use Rattle.exact_signs.proofs.ways.one_way.Goals as goal

pub sum_where-starts-requires : goal.sum_where-starts-requires
unfolding one_way
sum_where-starts-requires c = search rules

pub sum_where-ends-requires : goal.sum_where-ends-requires
unfolding one_way
sum_where-ends-requires c = search rules

pub all_not_below-requires : goal.all_not_below-requires
unfolding one_way
all_not_below-requires c = search rules

pub all_not_below-requires-2 : goal.all_not_below-requires-2
unfolding one_way
all_not_below-requires-2 c = search rules

pub returns : goal.returns
unfolding one_way
returns c =
    simp
    (c.all_not_below.ensures, c.all_not_below-2.ensures, c.sum_where-starts.ensures, c.sum_where-ends.ensures)
