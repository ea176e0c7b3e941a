use Rattle.four_words.specs.Six.{edges_tested_lem}
use Rattle.four_words.proofs.six.edges_six.Goals as goal

pub returns : goal.returns
returns c =
    let a = c.args in
    rw (c.between-b.ensures, c.between-a.ensures) (edges_tested_lem a.e a.i a.f a.j)
